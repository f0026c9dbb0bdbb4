-- Each single step of code is placed, and what is known after it.
use Rattle.std.proofs.Common.{◌≡◌, ◌≢◌, ℕ, ◌<◌, Bool, true, false, List, [], ◌∷◌, ◌++◌}
use Rattle.std.proofs.Common.{length, Option, Some, None, ap, ◌∙◌, sym, subst, refl, arith}
use Rattle.std.proofs.Common.{◌+◌, ◌⊎◌, inl, inr, length-append, true≢false}
use Rattle.std.proofs.lemmas.List.Elements.{All-append, All-cons, All-nil}
use Rattle.std.proofs.lemmas.Option.{same_Some}
use Rattle.std.specs.Prelude.{All, Ok, Err, ◌&&◌, ◌==◌, nat_le, nat_lt, slice_get, if◌then◌else◌}
use Rattle.sw_graph.specs.Bodies.{is_own}
use Rattle.sw_graph.specs.Payloads.{is_payload}
use Rattle.sw_graph.specs.Points.{points_of}
use Rattle.sw_graph.specs.declared.function.RegKind.{RegKind}
use Rattle.sw_graph.specs.declared.function.TheConstants.{MAX_POINTS, MAX_REGISTERS}
use Rattle.sw_graph.specs.declared.instr.Block.{Block}
use Rattle.sw_graph.specs.declared.instr.Instr.{Instr}
use Rattle.sw_graph.specs.declared.instr.Last.{Last}
use Rattle.sw_list.proofs.ListLemmas.{at_seam}
use Rattle.sw_lower_builder.specs.Blocks.{new_block, with_instr, with_last}
use Rattle.sw_lower_builder.specs.Unfinished.{in_block, with_block, with_register}
use Rattle.sw_lower_builder.specs.declared.builder.TheConstants.{MOST_BLOCKS}
use Rattle.sw_lower_plans.specs.Plan.{Entry, Numbers, var_in}
use Rattle.sw_lower_plans.specs.Run.{IsGoing, Making, payloads_alone, run_emit, run_known}
use Rattle.sw_lower_plans.specs.declared.bound.Bound.{Bound}
use Rattle.sw_lower_plans.specs.declared.fault.CodeFault.TheVariants.{Registers, Blocks, Missing}
use Rattle.sw_lower_plans.specs.declared.name.FunctionName.{FunctionName}
use Rattle.sw_lower_code.specs.Code.{bind, block_for, close, emit, front, known, number}
use Rattle.sw_lower_code.specs.Code.{reg, resume, var}
use Rattle.sw_lower_formed_facts.proofs.Positions.Steps.{ended, gave}
use Rattle.sw_lower_call_facts.proofs.Writing.Steps.{in_changed, known_is}
use Rattle.sw_lower_placed_facts.specs.Allowed.{IsAllowed}
use Rattle.sw_lower_placed_facts.specs.Placing.{AllAllowed, IsInFirst, IsKnown, IsMe, PlacesAt, Stood}
use Rattle.sw_lower_placed_facts.specs.Hosts.{Program, Host}
use Rattle.sw_lower_placed_facts.proofs.Placing.Allowed.{all_allowed_later, known_later}
use Rattle.sw_lower_placed_facts.proofs.Placing.Joining.{made_by_run}

-- Neither a register nor a variable was added.
pub record IsStill (s t : Making) : Type 0 where
  pub regs : t.made.regs ≡ s.made.regs
  pub vars : t.vars ≡ s.vars

-- A register of a kind was added, and nothing else. It isn't that of the body's own `self`.
pub record IsNew (host : Host) (s : Making) (kind : RegKind) (r : ℕ) (t : Making) : Type 0 where
  pub number : r ≡ length s.made.regs
  pub regs : t.made.regs ≡ s.made.regs ++ kind ∷ []
  pub vars : t.vars ≡ s.vars
  pub kind_is : slice_get t.made.regs r ≡ Some kind
  pub below : r < length t.made.regs
  pub apart : host.has_self ≡ true → r ≢ 0

-- a variable was added, and nothing else
pub record IsBound (s : Making) (bound : Bound) (t : Making) : Type 0 where
  pub regs : t.made.regs ≡ s.made.regs
  pub vars : t.vars ≡ s.vars ++ bound ∷ []

-- the first variable with a key, where one more is seen
in_longer : (key : ℕ) (vars : List Bound) (one found : Bound)
    → var_in key (vars ++ one ∷ []) ≡ Some found
    → (var_in key vars ≡ Some found) ⊎ ((one.key ≡ key) × (one ≡ found))
in_longer key [] one found is = by (one.key == key) refl is where
  by : (same : Bool) → (one.key == key) ≡ same
      → (if same then Some one else None) ≡ Some found
      → (None ≡ Some found) ⊎ ((one.key ≡ key) × (one ≡ found))
  by true same is = inr (grind (arith, same), same_Some one found is)
  by false same is = inl is
in_longer key (next ∷ vars) one found is =
    by (next.key == key) (in_longer key vars one found) is where
      by : (same : Bool)
          → (var_in key (vars ++ one ∷ []) ≡ Some found
          → (var_in key vars ≡ Some found) ⊎ ((one.key ≡ key) × (one ≡ found)))
          → (if same then Some next else var_in key (vars ++ one ∷ [])) ≡ Some found
          → ((if same then Some next else var_in key vars) ≡ Some found)
          ⊎ ((one.key ≡ key) × (one ≡ found))
      by true later is = inl is
      by false later is = later is

module _ {program : Program} {host : Host} where
  -- a value that is known
  known_places : {A : Type 0} (s : Making) (found : Option A) → Stood program host s → (value : A)
      (t : Making) → run_known found s ≡ Ok (value, t)
      → Stood program host t × ((found ≡ Some value) × (s ≡ t))
  known_places s found stood value t ran =
      let is = known_is found s t value ran in (subst (Stood program host) is.1 stood, is)

  pub places_known : {A : Type 0} (s : Making) (fallback : A) (found : Option A)
      → PlacesAt program host s (known fallback found)
      (λ value t. (found ≡ Some value) × (s ≡ t))
  unfolding known
  places_known s fallback found stood value t ran fits = known_places s found stood value t ran

  -- what no accepted program asks for
  pub places_none : {A : Type 0} (s : Making) (fallback : A) (Post : A → Making → Type 0)
      → PlacesAt program host s (known fallback None) Post
  unfolding known
  places_none s fallback Post stood value t ran fits = cc

  pub places_var : (s : Making) (key : ℕ)
      → PlacesAt program host s (var key)
      (λ bound t. (var_in key s.vars ≡ Some bound) × (s ≡ t))
  unfolding var
  places_var s key stood value t ran fits = known_places s (var_in key s.vars) stood value t ran

  pub places_number : (s : Making) (name : FunctionName)
      → PlacesAt program host s (number name)
      (λ f t. (program.numbers name ≡ Some f) × (s ≡ t))
  unfolding number
  places_number s name stood value t ran fits =
      let got = known_places s (s.number name) stood value t ran in (
        got.0,
        (ap (λ (numbers : Numbers). numbers name) (sym stood.numbers) ∙ got.1.0, got.1.1),
      )

  -- A function with the same registers and variables, of whose instructions each is allowed.
  stood_still : (s t : Making) → Stood program host s → IsGoing t → t.number ≡ s.number
      → IsStill s t → AllAllowed program host s.made.regs t.made.blocks → Stood program host t
  stood_still s t stood going numbers still written = record {
    going = going;
    numbers = numbers ∙ stood.numbers;
    known = subst (λ regs. All (IsKnown program host regs) t.vars) (sym still.regs)
        (subst (All (IsKnown program host s.made.regs)) (sym still.vars) stood.known);
    me = λ key bound own me found. stood.me key bound own me
        (ap (λ list. var_in key list) (sym still.vars) ∙ found);
    alone = λ has. subst (All (λ (bound : Bound). bound.reg ≡ 0 → IsMe program host bound.key))
        (sym still.vars) (stood.alone has);
    taken = λ has.
        subst (λ (regs : List RegKind). 0 < length regs) (sym still.regs) (stood.taken has);
    written = subst (λ regs. AllAllowed program host regs t.made.blocks) (sym still.regs) written;
  }

  -- a register
  pub places_reg : (s : Making) (kind : RegKind)
      → PlacesAt program host s (reg kind) (λ r t. IsNew host s kind r t)
  unfolding reg
  places_reg s kind stood value t ran fits =
      by (nat_le MAX_REGISTERS (length s.made.regs)) ran where
        after : Making
        after = record s { made = with_register kind s.made }

        longer : length (s.made.regs ++ kind ∷ []) ≡ length s.made.regs + 1
        longer = length-append s.made.regs (kind ∷ [])

        stands : Stood program host after
        stands = record {
          going = stood.going;
          numbers = stood.numbers;
          known = λ k d below.
              known_later program host s.made.regs (s.made.regs ++ kind ∷ []) (kind ∷ [], refl) _
              (stood.known k d below);
          me = stood.me;
          alone = stood.alone;
          taken = λ has. omega (arith, longer);
          written = all_allowed_later program host s.made.regs (s.made.regs ++ kind ∷ [])
              (kind ∷ [], refl) s.made.blocks stood.written;
        }

        new : IsNew host s kind (length s.made.regs) after
        new = record {
          number = refl;
          regs = refl;
          vars = refl;
          kind_is = at_seam s.made.regs kind [];
          below = omega (arith, longer);
          apart = λ has zero. omega (arith, stood.taken has, zero);
        }

        by : (full : Bool)
            → (if full then Err Registers else gave (length s.made.regs) after) ≡ Ok (value, t)
            → Stood program host t × IsNew host s kind value t
        by true ran = cc
        by false ran =
            let is = ended (length s.made.regs) after value t ran in (
              subst (Stood program host) is.1 stands,
              subst (λ r. IsNew host s kind r t) is.0
                  (subst (IsNew host s kind (length s.made.regs)) is.1 new),
            )

  -- an instruction of the block that goes on
  emit_places : (s : Making) (instr : Instr) → IsAllowed program host s.made.regs instr
      → Stood program host s → (value : Unit {0}) (t : Making) → IsGoing t
      → run_emit instr s ≡ Ok (value, t) → t.over ≡ false → Stood program host t × IsStill s t
  emit_places s instr allowed stood value t going ran fits =
      by (nat_le MAX_POINTS (length (points_of s.made.blocks))) ran where
        over : Making
        over = record s { over = true }

        after : Making
        after = record s { made = in_block (with_instr instr) s.here s.made }

        written : AllAllowed program host s.made.regs after.made.blocks
        written = in_changed (IsAllowed program host s.made.regs) (with_instr instr)
            (λ block all. All-append (IsAllowed program host s.made.regs) block.instrs (instr ∷ [])
            all
            (All-cons (IsAllowed program host s.made.regs) instr [] allowed
            (All-nil (IsAllowed program host s.made.regs))))
            s.here s.made.blocks stood.written

        by : (full : Bool) → (if full then gave tt over else gave tt after) ≡ Ok (value, t)
            → Stood program host t × IsStill s t
        by true ran =
            absurd (true≢false (ap (λ (m : Making). m.over) (ended tt over value t ran).1 ∙ fits))
        by false ran =
            let is = (ended tt after value t ran).1 in
            let still : IsStill s after = record { regs = refl; vars = refl } in (
              subst (Stood program host) is
                  (stood_still s after stood
                  (subst IsGoing (sym is) going) refl still written),
              subst (IsStill s) is still,
            )

  pub places_emit : (s : Making) (instr : Instr) → IsAllowed program host s.made.regs instr
      → PlacesAt program host s (emit instr) (λ value t. IsStill s t)
  unfolding emit
  places_emit s instr allowed stood value t ran fits =
      emit_places s instr allowed stood value t
      (made_by_run (emit instr) s t value stood.going ran).there ran fits

  pub places_front : (s : Making) (instr : Instr) → IsAllowed program host s.made.regs instr
      → PlacesAt program host s (front instr) (λ value t. IsStill s t)
  unfolding front
  places_front s instr allowed stood value t ran fits =
      by (is_payload instr && payloads_alone (slice_get s.made.blocks s.here)) ran where
        by : (may : Bool) → (if may then run_emit instr s else Err Missing) ≡ Ok (value, t)
            → Stood program host t × IsStill s t
        by true given =
            emit_places s instr allowed stood value t
            (made_by_run (front instr) s t value stood.going ran).there given fits
        by false given = cc

  -- a last instruction of the block that goes on
  pub places_close : (s : Making) (last : Last)
      → PlacesAt program host s (close last) (λ value t. IsStill s t)
  unfolding close
  places_close s last stood value t ran fits =
      let after : Making = record s { made = in_block (with_last last) s.here s.made } in
      let is = (ended tt after value t ran).1 in
      let still : IsStill s after = record { regs = refl; vars = refl } in (
        subst (Stood program host) is
            (stood_still s after stood
            (subst IsGoing (sym is) (made_by_run (close last) s t value stood.going ran).there)
            refl still
            (in_changed (IsAllowed program host s.made.regs) (with_last last) (λ block all. all)
            s.here s.made.blocks stood.written)),
        subst (IsStill s) is still,
      )

  -- a block
  pub places_block : (s : Making) (entry : Entry)
      → PlacesAt program host s (block_for entry) (λ value t. IsStill s t)
  unfolding block_for
  places_block s entry stood value t ran fits =
      by (nat_le MOST_BLOCKS (length s.made.blocks)) ran where
        after : Making
        after = record s { made = with_block s.made }

        still : IsStill s after
        still = record { regs = refl; vars = refl }

        written : AllAllowed program host s.made.regs after.made.blocks
        written = All-append (λ (b : Block). All (IsAllowed program host s.made.regs) b.instrs)
            s.made.blocks (new_block ∷ []) stood.written
            (All-cons (λ (b : Block). All (IsAllowed program host s.made.regs) b.instrs) new_block
            [] (All-nil (IsAllowed program host s.made.regs))
            (All-nil (λ (b : Block). All (IsAllowed program host s.made.regs) b.instrs)))

        by : (full : Bool)
            → (if full then Err Blocks else gave (length s.made.blocks) after) ≡ Ok (value, t)
            → Stood program host t × IsStill s t
        by true given = cc
        by false given =
            let is = (ended (length s.made.blocks) after value t given).1 in (
              subst (Stood program host) is
                  (stood_still s after stood
                  (subst IsGoing (sym is)
                  (made_by_run (block_for entry) s t value stood.going ran).there)
                  refl still written),
              subst (IsStill s) is still,
            )

  -- another block goes on
  pub places_resume : (s : Making) (block : ℕ)
      → PlacesAt program host s (resume block) (λ value t. IsStill s t)
  unfolding resume
  places_resume s block stood value t ran fits =
      by (nat_lt block (length s.made.blocks)) ran where
        after : Making
        after = record s { here = block }

        still : IsStill s after
        still = record { regs = refl; vars = refl }

        by : (is : Bool) → (if is then gave tt after else Err Missing) ≡ Ok (value, t)
            → Stood program host t × IsStill s t
        by false given = cc
        by true given =
            let is = (ended tt after value t given).1 in (
              subst (Stood program host) is
                  (stood_still s after stood
                  (subst IsGoing (sym is)
                  (made_by_run (resume block) s t value stood.going ran).there)
                  refl still stood.written),
              subst (IsStill s) is still,
            )

  -- a variable, `self` too
  pub places_bind_any : (s : Making) (bound : Bound)
      → IsKnown program host s.made.regs bound
      → (is_own host.iso ≡ true → IsMe program host bound.key → IsInFirst program host bound)
      → (host.has_self ≡ true → bound.reg ≡ 0 → IsMe program host bound.key)
      → PlacesAt program host s (bind bound) (λ value t. IsBound s bound t)
  unfolding bind
  places_bind_any s bound is_known me alone stood value t ran fits =
      let is = (ended tt after value t ran).1 in
      (subst (Stood program host) is stands, subst (IsBound s bound) is same) where
        after : Making
        after = record s { vars = s.vars ++ bound ∷ [] }

        same : IsBound s bound after
        same = record { regs = refl; vars = refl }

        Zero : Bound → Type 0
        Zero one = one.reg ≡ 0 → IsMe program host one.key

        by_me : (key : ℕ) (found : Bound) → is_own host.iso ≡ true → IsMe program host key
            → (var_in key s.vars ≡ Some found) ⊎ ((bound.key ≡ key) × (bound ≡ found))
            → IsInFirst program host found
        by_me key found own is_me (inl before) = stood.me key found own is_me before
        by_me key found own is_me (inr last) =
            subst (IsInFirst program host) last.1
            (me own (subst (IsMe program host) (sym last.0) is_me))

        stands : Stood program host after
        stands = record {
          going = stood.going;
          numbers = stood.numbers;
          known = All-append (IsKnown program host s.made.regs) s.vars (bound ∷ []) stood.known
              (All-cons (IsKnown program host s.made.regs) bound [] is_known
              (All-nil (IsKnown program host s.made.regs)));
          me = λ key found own is_me is.
              by_me key found own is_me (in_longer key s.vars bound found is);
          alone = λ has. All-append Zero s.vars (bound ∷ []) (stood.alone has)
              (All-cons Zero bound [] (alone has) (All-nil Zero));
          taken = stood.taken;
          written = stood.written;
        }

  -- a variable that isn't `self`
  pub places_bind : (s : Making) (bound : Bound) → IsKnown program host s.made.regs bound
      → (IsMe program host bound.key → ⊥) → (host.has_self ≡ true → bound.reg ≢ 0)
      → PlacesAt program host s (bind bound) (λ value t. IsBound s bound t)
  places_bind s bound is_known other apart =
      places_bind_any s bound is_known (λ own me. absurd (other me))
      (λ has zero. absurd (apart has zero))
