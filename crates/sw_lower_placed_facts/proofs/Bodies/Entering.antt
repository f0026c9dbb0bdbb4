-- A body begins with what it takes: the function in which the body's own code stands.
use Rattle.std.proofs.Common.{◌≡◌, ℕ, ◌<◌, Bool, true, false, List, [], ◌∷◌, ◌++◌, length}
use Rattle.std.proofs.Common.{Some, None, map, refl, ap, sym, ◌∙◌, subst, arith}
use Rattle.std.proofs.Common.{append-nil, append_assoc}
use Rattle.std.proofs.lemmas.Bool.{eq-eqb}
use Rattle.std.proofs.lemmas.List.Elements.{All-cons, All-head, All-nil, All-push, All-tail}
use Rattle.std.proofs.lemmas.List.Elements.{All-weaker}
use Rattle.std.proofs.lemmas.Option.{same_Some}
use Rattle.std.specs.Prelude.{All, Ok, Err, ◌==◌, if◌then◌else◌, nat_le}
use Rattle.sw_types.specs.declared.isolation.Iso.{Iso}
use Rattle.sw_list.proofs.ListLemmas.{at_seam}
use Rattle.sw_graph.specs.Bodies.{is_own}
use Rattle.sw_graph.specs.declared.function.RegKind.{RegKind}
use Rattle.sw_graph.specs.declared.function.TheConstants.{MAX_REGISTERS}
use Rattle.sw_graph.specs.declared.instr.Block.{Block}
use Rattle.sw_lower_builder.specs.Blocks.{new_block}
use Rattle.sw_lower_builder.specs.Unfinished.{with_register}
use Rattle.sw_lower_plans.specs.Plan.{var_in}
use Rattle.sw_lower_plans.specs.Run.{IsGoing, Making, at_start, run_after, run_bind}
use Rattle.sw_lower_plans.specs.declared.bound.Bound.{Bound}
use Rattle.sw_lower_plans.specs.declared.fault.CodeFault.TheVariants.{Registers}
use Rattle.sw_lower_code.specs.Code.{all, andthen, bind, done, reg}
use Rattle.sw_lower_code.specs.Whole.{enter}
use Rattle.sw_lower_code.specs.declared.taken.Taken.{Taken}
use Rattle.sw_lower_formed_facts.specs.Taking.{TakenOk}
use Rattle.sw_lower_formed_facts.proofs.Positions.Steps.{ended, gave}
use Rattle.sw_lower_total_facts.proofs.Frames.Joining.{ran_both}
use Rattle.sw_lower_total_facts.proofs.Proceeding.Ready.{var_more}
use Rattle.sw_lower_placed_facts.specs.Allowed.{IsAllowed}
use Rattle.sw_lower_placed_facts.specs.Placing.{AllAllowed, IsInFirst, IsKnown, IsMe, Stood}
use Rattle.sw_lower_placed_facts.specs.Hosts.{Program, Host}
use Rattle.sw_lower_placed_facts.proofs.Placing.Allowed.{known_later}

-- the variable of what is taken
abbrev entered : Taken → ℕ → Bound
entered one number = record { key = one.key; reg = number; boxed = one.boxed }

-- a function after something is taken
abbrev after : Taken → Making → Making
after one s = record s {
  made = with_register one.kind s.made;
  vars = s.vars ++ entered one (length s.made.regs) ∷ [];
}

-- and after all that a body takes
pub after_all : List Taken → Making → Making
after_all [] s = s
after_all (one ∷ more) s = after_all more (after one s)

abbrev pub kinds_of : List Taken → List RegKind
kinds_of takes = map (λ (one : Taken). one.kind) takes

enter_ran : (one : Taken) (s t : Making) (value : Unit {0}) → (enter one).run s ≡ Ok (value, t)
    → after one s ≡ t
unfolding andthen bind reg
enter_ran one s t value ran = by (nat_le MAX_REGISTERS (length s.made.regs)) ran where
  by : (full : Bool) → run_after
      (if full then Err Registers
      else gave (length s.made.regs) (record s { made = with_register one.kind s.made }))
      (λ number. run_bind (entered one number)) ≡ Ok (value, t) → after one s ≡ t
  by true ran = cc
  by false ran = (ended tt (after one s) value t ran).1

pub enters_ran : (takes : List Taken) (s t : Making) (value : Unit {0})
    → (all enter takes).run s ≡ Ok (value, t) → after_all takes s ≡ t
unfolding after_all all done
enters_ran [] s t value ran = (ended tt s value t ran).1
enters_ran (one ∷ takes) s t value ran =
    let both = ran_both (enter one) (λ _. all enter takes) s t value ran in
    enters_ran takes (after one s) t value
    (subst (λ m. (all enter takes).run m ≡ Ok (value, t))
    (sym (enter_ran one s both.1 both.0 both.2)) both.3)

pub regs_after : (takes : List Taken) (s : Making)
    → (after_all takes s).made.regs ≡ s.made.regs ++ kinds_of takes
unfolding after_all
regs_after [] s = sym (append-nil s.made.regs)
regs_after (one ∷ takes) s =
    regs_after takes (after one s) ∙ append_assoc s.made.regs (one.kind ∷ []) (kinds_of takes)

blocks_after : (takes : List Taken) (s : Making)
    → (after_all takes s).made.blocks ≡ s.made.blocks
unfolding after_all
blocks_after [] s = refl
blocks_after (one ∷ takes) s = blocks_after takes (after one s)

here_after : (takes : List Taken) (s : Making) → (after_all takes s).here ≡ s.here
unfolding after_all
here_after [] s = refl
here_after (one ∷ takes) s = here_after takes (after one s)

number_after : (takes : List Taken) (s : Making) → (after_all takes s).number ≡ s.number
unfolding after_all
number_after [] s = refl
number_after (one ∷ takes) s = number_after takes (after one s)

-- A variable that is found stays found.
var_after : (takes : List Taken) (s : Making) (key : ℕ) (bound : Bound)
    → var_in key s.vars ≡ Some bound → var_in key (after_all takes s).vars ≡ Some bound
unfolding after_all
var_after [] s key bound found = found
var_after (one ∷ takes) s key bound found =
    var_after takes (after one s) key bound
    (var_more key s.vars (entered one (length s.made.regs) ∷ []) bound found)

-- Where no variable has a key, none is found.
found_has : (P : ℕ → Type 0) (key : ℕ) (vars : List Bound) (bound : Bound)
    → All (λ (one : Bound). P one.key) vars → var_in key vars ≡ Some bound → P key
found_has P key [] bound all found = cc
found_has P key (one ∷ vars) bound all found =
    by (one.key == key) refl
    (found_has P key vars bound (All-tail (λ (b : Bound). P b.key) one vars all))
    found where
      by : (test : Bool) → (one.key == key) ≡ test → (var_in key vars ≡ Some bound → P key)
          → (if test then Some one else var_in key vars) ≡ Some bound → P key
      by true same later is =
          subst P (let equal : one.key ≡ key = grind (arith, same) in equal)
          (All-head (λ (b : Bound). P b.key) one vars all)
      by false same later is = later is

-- what is so of the key of each thing that is taken, and of each variable before
keys_after : (P : ℕ → Type 0) (takes : List Taken) (s : Making)
    → All (λ (one : Taken). P one.key) takes → All (λ (one : Bound). P one.key) s.vars
    → All (λ (one : Bound). P one.key) (after_all takes s).vars
unfolding after_all
keys_after P [] s all vars = vars
keys_after P (one ∷ takes) s all vars =
    keys_after P takes (after one s) (All-tail (λ (t : Taken). P t.key) one takes all)
    (All-push (λ (b : Bound). P b.key) s.vars (entered one (length s.made.regs)) vars
    (All-head (λ (t : Taken). P t.key) one takes all))

module _ (program : Program) (host : Host) where
  -- `self` is taken first, in no box.
  pub record SelfFirst (takes : List Taken) : Type 0 where
    pub first : Taken
    pub more : List Taken
    pub are : takes ≡ first ∷ more
    pub me : IsMe program host first.key
    pub plain : first.boxed ≡ false

  -- What is taken has the types of its variables. It has `self` first where the body has its own.
  pub record TakesWell (takes : List Taken) : Type 0 where
    pub typed : All (TakenOk program.tables host.owner) takes
    pub first : host.has_self ≡ true → SelfFirst takes
    pub none : is_own host.iso ≡ true → host.has_self ≡ false
        → All (λ (one : Taken). IsMe program host one.key → ⊥) takes

  known_new : (regs : List RegKind) (one : Taken) → TakenOk program.tables host.owner one
      → IsKnown program host (regs ++ one.kind ∷ []) (entered one (length regs))
  known_new regs one ok = record {
    ty = ok.ty;
    typed = ok.typed;
    kind = at_seam regs one.kind [] ∙ ap Some ok.kind;
  }

  known_after : (takes : List Taken) (s : Making) → All (TakenOk program.tables host.owner) takes
      → All (IsKnown program host s.made.regs) s.vars
      → All (IsKnown program host (after_all takes s).made.regs) (after_all takes s).vars
  unfolding after_all
  known_after [] s oks known = known
  known_after (one ∷ takes) s oks known =
      let Ok = TakenOk program.tables host.owner in
      let later = IsKnown program host (s.made.regs ++ one.kind ∷ []) in
      known_after takes (after one s) (All-tail Ok one takes oks)
      (All-push later s.vars (entered one (length s.made.regs))
      (All-weaker (IsKnown program host s.made.regs) later
      (known_later program host s.made.regs (s.made.regs ++ one.kind ∷ []) (one.kind ∷ [], refl))
      s.vars known)
      (known_new s.made.regs one (All-head Ok one takes oks)))

  -- what register 0 is of
  abbrev IsAlone : Bound → Type 0
  IsAlone bound = bound.reg ≡ 0 → IsMe program host bound.key

  more_regs : (regs : List RegKind) (kind : RegKind) → 0 < length (regs ++ kind ∷ [])
  more_regs [] kind = omega arith
  more_regs (first ∷ regs) kind = omega arith

  taken_after : (takes : List Taken) (s : Making) → 0 < length s.made.regs
      → 0 < length (after_all takes s).made.regs
  unfolding after_all
  taken_after [] s has = has
  taken_after (one ∷ takes) s has =
      taken_after takes (after one s) (more_regs s.made.regs one.kind)

  alone_after : (takes : List Taken) (s : Making) → 0 < length s.made.regs → All IsAlone s.vars
      → All IsAlone (after_all takes s).vars
  unfolding after_all
  alone_after [] s has alone = alone
  alone_after (one ∷ takes) s has alone =
      alone_after takes (after one s) (more_regs s.made.regs one.kind)
      (All-push IsAlone s.vars (entered one (length s.made.regs)) alone
      (λ is. absurd (omega (arith, has, is))))

  -- `self` is first, and stays so
  first_found : (first : Taken) (more : List Taken) (s : Making) (key : ℕ) (bound : Bound)
      → s.made.regs ≡ [] → s.vars ≡ [] → IsMe program host first.key → first.boxed ≡ false
      → host.has_self ≡ true → IsMe program host key
      → var_in key (after_all (first ∷ more) s).vars ≡ Some bound → IsInFirst program host bound
  unfolding after_all
  first_found first more s key bound regs vars me plain has is found = record {
    has = has;
    reg = ap (λ (b : Bound). b.reg) (sym one) ∙ ap length regs;
    plain = ap (λ (b : Bound). b.boxed) (sym one) ∙ plain;
  } where
    same : first.key ≡ key
    same = same_Some first.key key (sym me ∙ is)

    new : Bound
    new = entered first (length s.made.regs)

    there : var_in key (after first s).vars ≡ Some new
    there = ap (λ some. var_in key (some ++ new ∷ [])) vars
        ∙ ap (λ (test : Bool). if test then Some new else None) (eq-eqb first.key key same)

    one : new ≡ bound
    one = same_Some new bound (sym (var_after more (after first s) key new there) ∙ found)

  -- a function without registers, variables and instructions, which a body begins with
  pub record Begins (s : Making) : Type 0 where
    pub regs : s.made.regs ≡ []
    pub vars : s.vars ≡ []
    pub blocks : s.made.blocks ≡ new_block ∷ []
    pub here : s.here ≡ 0
    pub number : s.number ≡ program.numbers

  pub begins_at : (key : ℕ) (iso : Iso) (is_async : Bool)
      → Begins (at_start program.numbers key iso is_async)
  begins_at key iso is_async =
      record { regs = refl; vars = refl; blocks = refl; here = refl; number = refl }

  no_instrs : (regs : List RegKind) → AllAllowed program host regs (new_block ∷ [])
  no_instrs regs =
      All-cons (λ (block : Block). All (IsAllowed program host regs) block.instrs) new_block []
      (All-nil (IsAllowed program host regs))
      (All-nil (λ (block : Block). All (IsAllowed program host regs) block.instrs))

  module _ (takes : List Taken) (well : TakesWell takes) (s : Making) (begins : Begins s) where
    abbrev t : Making
    t = after_all takes s

    going_then : IsGoing t
    going_then =
        omega (
          arith,
          here_after takes s,
          begins.here,
          ap length (blocks_after takes s),
          ap length begins.blocks,
        )

    me_by : (key : ℕ) (bound : Bound) → is_own host.iso ≡ true → IsMe program host key
        → (has : Bool) → host.has_self ≡ has → var_in key t.vars ≡ Some bound
        → IsInFirst program host bound
    me_by key bound own is false none found =
        absurd (found_has (λ k. IsMe program host k → ⊥) key t.vars bound
        (keys_after (λ k. IsMe program host k → ⊥) takes s (well.none own none)
        (subst (All (λ (b : Bound). IsMe program host b.key → ⊥)) (sym begins.vars)
        (All-nil (λ (b : Bound). IsMe program host b.key → ⊥)))) found is)
    me_by key bound own is true has found =
        let first = well.first has in
        first_found first.first first.more s key bound begins.regs begins.vars first.me first.plain
        has is
        (subst (λ all. var_in key (after_all all s).vars ≡ Some bound) first.are found)

    first_alone : (first : Taken) (more : List Taken) → IsMe program host first.key
        → All IsAlone (after_all (first ∷ more) s).vars
    unfolding after_all
    first_alone first more me =
        alone_after more (after first s) (more_regs s.made.regs first.kind)
        (All-push IsAlone s.vars (entered first (length s.made.regs))
        (subst (All IsAlone) (sym begins.vars) (All-nil IsAlone)) (λ is. me))

    first_taken : (first : Taken) (more : List Taken)
        → 0 < length (after_all (first ∷ more) s).made.regs
    unfolding after_all
    first_taken first more =
        taken_after more (after first s) (more_regs s.made.regs first.kind)

    -- The body's own code begins in a function that stands.
    pub stands_then : Stood program host t
    stands_then = record {
      going = going_then;
      numbers = number_after takes s ∙ begins.number;
      known = known_after takes s well.typed
          (subst (All (IsKnown program host s.made.regs)) (sym begins.vars)
          (All-nil (IsKnown program host s.made.regs)));
      me = λ key bound own is found. me_by key bound own is host.has_self refl found;
      alone = λ has.
          let first = well.first has in
          subst (λ all. All IsAlone (after_all all s).vars) (sym first.are)
          (first_alone first.first first.more first.me);
      taken = λ has.
          let first = well.first has in
          subst (λ all. 0 < length (after_all all s).made.regs) (sym first.are)
          (first_taken first.first first.more);
      written = subst (AllAllowed program host t.made.regs)
          (sym (blocks_after takes s ∙ begins.blocks)) (no_instrs t.made.regs);
    }

-- A body that has no `self` of its own and takes nothing
pub takes_nothing : (program : Program) (host : Host) → host.has_self ≡ false
    → TakesWell program host []
takes_nothing program host none = record {
  typed = All-nil (TakenOk program.tables host.owner);
  first = λ has. cc (has, none);
  none = λ own without. All-nil (λ (one : Taken). IsMe program host one.key → ⊥);
}
