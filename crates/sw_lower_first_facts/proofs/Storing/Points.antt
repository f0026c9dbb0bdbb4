-- Where a return stands among the points of blocks that return only after they stored a global
-- variable.
use Rattle.std.proofs.Common.{◌≡◌, ℕ, suc, ◌+◌, ◌-◌, Bool, true, false, IsTrue}
use Rattle.std.proofs.Common.{List, [], ◌∷◌, ◌++◌, length, map, Option, Some, None, refl, sym, ap}
use Rattle.std.proofs.Common.{subst, ◌∙◌, arith, inl, inr, ◌||◌, slice_get, length-append}
use Rattle.std.proofs.Common.{true≢false}
use Rattle.std.proofs.lemmas.Bool.{cases_lt, eq-eqb}
use Rattle.std.proofs.lemmas.Option.{none-some, same_Some}
use Rattle.std.specs.Option.{option_map}
use Rattle.sw_list.proofs.ListLemmas.{slice_get_first, slice_get_after}
use Rattle.sw_graph.specs.Placed.{IsReturn}
use Rattle.sw_graph.specs.Points.{End, Middle, Point, point_in, points_of}
use Rattle.sw_graph.specs.Points.{points_of_block}
use Rattle.sw_graph.specs.Ways.{Leads, on, to}
use Rattle.sw_graph.specs.declared.function.Function.{Function}
use Rattle.sw_graph.specs.declared.instr.Block.{Block}
use Rattle.sw_graph.specs.declared.instr.Instr.{Instr}
use Rattle.sw_graph.specs.declared.instr.Instr.TheVariants.{StoreGlobal}
use Rattle.sw_graph.specs.declared.instr.Last.{Last}
use Rattle.sw_graph.specs.declared.instr.Last.TheVariants.{Jump, Branch, Switch, Return}
use Rattle.sw_graph.specs.declared.instr.Operand.{Operand}
use Rattle.sw_graph.specs.Annotations.{StoresBefore}
use Rattle.sw_graph.specs.Stores.{point_stores}
use Rattle.sw_lower_first_facts.specs.Storing.{AllReturnStoring, EndsStoring, ReturnsStoring}
use Rattle.sw_lower_formed_facts.proofs.Functions.Points.{end_at, point_at, start_of}

-- whether a return stands at a point
abbrev pub is_return : Option Point → Bool
is_return (Some (End (Return s))) = true
is_return _ = false

-- a point at which a return stands
record ReturnAt (found : Option Point) : Type 0 where
  given : Option Operand
  is : found ≡ Some (End (Return given))

return_at : (found : Option Point) → is_return found ≡ true → ReturnAt found
return_at None is = cc
return_at (Some (Middle instr)) is = cc
return_at (Some (End (Jump block))) is = cc
return_at (Some (End (Branch s holds fails))) is = cc
return_at (Some (End (Switch s blocks))) is = cc
return_at (Some (End (Return s))) is = record { given = s; is = refl }

-- the store of a global variable that stands before a point
pub record StoredAt (g p : ℕ) (points : List Point) : Type 0 where
  pub before : ℕ
  pub next : p ≡ suc before
  pub at : ℕ
  pub given : Operand
  pub is : slice_get points before ≡ Some (Middle (StoreGlobal at g given))

last_instr : (earlier : List Instr) (instr : Instr) (last : Last)
    → slice_get (map Middle (earlier ++ instr ∷ []) ++ End last ∷ []) (length earlier)
    ≡ Some (Middle instr)
last_instr [] instr last = refl
last_instr (first ∷ earlier) instr last = last_instr earlier instr last

-- in the block of a return
in_block : (g p : ℕ) (block : Block) (s : Option Operand) → ReturnsStoring g block
    → slice_get (points_of_block block) p ≡ Some (End (Return s))
    → StoredAt g p (points_of_block block)
in_block g p block s storing here =
    let end = end_at block.instrs block.last (Return s) p here in
    let stored = storing (subst IsReturn (sym end.1) tt) in
    record {
      before = length stored.earlier;
      next = omega (
        arith,
        end.0,
        ap length stored.is,
        length-append stored.earlier (StoreGlobal stored.at g stored.given ∷ []),
      );
      at = stored.at;
      given = stored.given;
      is =
          ap (λ instrs.
          slice_get (map Middle instrs ++ End block.last ∷ []) (length stored.earlier))
          stored.is
          ∙ last_instr stored.earlier (StoreGlobal stored.at g stored.given) block.last;
    }

-- A return stands after the store of the global variable.
pub stored_before : (g p : ℕ) (blocks : List Block) (s : Option Operand)
    → AllReturnStoring g blocks → slice_get (points_of blocks) p ≡ Some (End (Return s))
    → StoredAt g p (points_of blocks)
unfolding points_of
stored_before g p [] s all here = absurd (none-some (End (Return s)) here)
stored_before g p (block ∷ blocks) s all here =
    let own = points_of_block block in
    elim (cases_lt p (length own)) [
      | inl below ↦
          let one = in_block g p block s (all 0 block refl)
          (sym (slice_get_first own (points_of blocks) p below) ∙ here) in record {
            before = one.before;
            next = one.next;
            at = one.at;
            given = one.given;
            is = slice_get_first own (points_of blocks) one.before
                (omega (arith, below, one.next)) ∙ one.is;
          }
      | inr above ↦
          let i : ℕ = p - length own in
          let split : p ≡ length own + i = omega (arith, above) in
          let later = stored_before g i blocks s (λ number. all (suc number))
          (sym (slice_get_after own (points_of blocks) i)
          ∙ ap (slice_get (own ++ points_of blocks)) (sym split) ∙ here) in record {
            before = length own + later.before;
            next = omega (arith, split, later.next);
            at = later.at;
            given = later.given;
            is = slice_get_after own (points_of blocks) later.before ∙ later.is;
          }
    ]

-- No block begins with a return.
begins_none : (g : ℕ) (block : Block) (instrs : List Instr) (last : Last) → block.instrs ≡ instrs
    → block.last ≡ last → ReturnsStoring g block → is_return (slice_get (points_of_block block) 0)
    ≡ false
begins_none g block instrs last instrs_are last_is storing =
    ap (λ all. is_return (slice_get (map Middle all ++ End block.last ∷ []) 0)) instrs_are
    ∙ ap (λ end. is_return (slice_get (map Middle instrs ++ End end ∷ []) 0)) last_is
    ∙ by instrs last instrs_are last_is where
      empty : (stored : EndsStoring g block.instrs) → block.instrs ≡ [] → ⊥
      empty stored none =
          omega (
            arith,
            ap length none,
            ap length stored.is,
            length-append stored.earlier (StoreGlobal stored.at g stored.given ∷ []),
          )

      by : (instrs : List Instr) (last : Last) → block.instrs ≡ instrs → block.last ≡ last
          → is_return (slice_get (map Middle instrs ++ End last ∷ []) 0) ≡ false
      by (instr ∷ instrs) last one other = refl
      by [] (Jump block) one other = refl
      by [] (Branch s holds fails) one other = refl
      by [] (Switch s blocks) one other = refl
      by [] (Return s) one other = absurd (empty (storing (subst IsReturn (sym other) tt)) one)

block_begins : (g number q : ℕ) (blocks : List Block) → AllReturnStoring g blocks
    → option_map (λ (block : Block). start_of blocks number) (slice_get blocks number) ≡ Some q
    → is_return (slice_get (points_of blocks) q) ≡ false
block_begins g number q blocks all starts = by (slice_get blocks number) refl starts where
  by : (found : Option Block) → slice_get blocks number ≡ found
      → option_map (λ (block : Block). start_of blocks number) found ≡ Some q
      → is_return (slice_get (points_of blocks) q) ≡ false
  by None is starts = absurd (none-some q starts)
  by (Some block) is starts =
      let there : q ≡ start_of blocks number + 0 =
      omega (arith, same_Some (start_of blocks number) q starts) in
      ap is_return (ap (slice_get (points_of blocks)) there
      ∙ point_at blocks number 0 block is (omega arith))
      ∙ begins_none g block block.instrs block.last refl refl (all number block is)

module _ (g : ℕ) (function : Function) (all : AllReturnStoring g function.blocks) where
  abbrev pub stored : ℕ → Bool
  stored p = is_return (point_in function p)

  return_first : (found : Bool) → stored 0 ≡ found → stored 0 ≡ false
  return_first false is = is
  return_first true is =
      let here = return_at (point_in function 0) is in
      let before = stored_before g 0 function.blocks here.given all here.is in
      absurd (omega (arith, before.next))

  same_store : (at : ℕ) (given : Operand)
      → point_stores g (Some (Middle (StoreGlobal at g given))) ≡ true
  same_store at given = eq-eqb g g refl

  stored_leads : (p q : ℕ) → Leads function p q → IsTrue (stored q)
      → IsTrue (point_stores g (point_in function p) || stored p)
  stored_leads p q (on p' instr here) is =
      let there = return_at (point_in function q) is in
      let before = stored_before g q function.blocks there.given all there.is in
      let same : before.before ≡ p = omega (arith, before.next) in
      ap (λ found. point_stores g found || stored p)
      (ap (point_in function) (sym same) ∙ before.is)
      ∙ ap (λ yes. yes || stored p) (same_store before.at before.given)
  stored_leads p q (to p' last k block q' here goes starts) is =
      absurd (true≢false (sym is ∙ block_begins g block q function.blocks all starts))

  returned : (p : ℕ) (s : Option Operand) → point_in function p ≡ Some (End (Return s))
      → IsTrue (stored p)
  returned p s here = ap is_return here

  -- A function whose blocks return only after they stored a global variable stores it before it
  -- returns.
  pub stores_before : StoresBefore g function stored
  stores_before = record {
    starts = return_first (stored 0) refl;
    leads = stored_leads;
    returns = returned;
  }
