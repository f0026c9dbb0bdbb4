-- The work of `switch` stands where its code is.
use Rattle.std.proofs.Common.{◌≡◌, ℕ, zero, suc, ◌<◌, ◌≤◌, ◌⊎◌, inl, inr, Bool, true, false, Option}
use Rattle.std.proofs.Common.{Some, None, List, [], ◌∷◌, ◌++◌, length, map, refl, ap, sym, ◌∙◌, subst}
use Rattle.std.proofs.Common.{arith, take}
use Rattle.std.proofs.lemmas.Bool.Decides.{eqb_tells}
use Rattle.std.proofs.lemmas.List.{length-map}
use Rattle.std.proofs.lemmas.Option.{slice_get-map}
use Rattle.std.specs.Option.{option_map, unwrap_or}
use Rattle.std.specs.Prelude.{Ok, ◌≢◌, ◌==◌, slice_get, if◌then◌else◌}
use Rattle.sw_types.specs.declared.shape.CaseShape.{CaseShape}
use Rattle.sw_types.specs.declared.shape.Shape.{Shape}
use Rattle.sw_graph.specs.declared.function.Function.{Function}
use Rattle.sw_graph.specs.declared.instr.Block.{Block}
use Rattle.sw_graph.specs.declared.instr.Last.{Last}
use Rattle.sw_graph.specs.declared.instr.Last.TheVariants as last
use Rattle.sw_graph.specs.declared.instr.Operand.{Operand}
use Rattle.sw_typing_rules.specs.Worlds.{item}
use Rattle.sw_isolation_rules.specs.Uses.{named_shape}
use Rattle.sw_lower_plans.specs.Plan.{Anywhere, Entry, Numbers, OfCase, var_in}
use Rattle.sw_lower_plans.specs.Run.{IsGoing, Making, instrs_at}
use Rattle.sw_lower_plans.specs.declared.bound.Bound.{Bound}
use Rattle.sw_lower_code.specs.Code.{Code, all, block_for, close, done, each, resume, scope}
use Rattle.sw_lower_code.specs.Code.{◌>>=◌, ◌>>◌}
use Rattle.sw_lower_rules.specs.Carriers.{BlockCode, CaseCode, ExprCode}
use Rattle.sw_lower_rules.specs.Expressions.{block_made, jump}
use Rattle.sw_lower_rules.specs.Statements.{Arm, arm_block, arm_code, block_of, case_from, default_block}
use Rattle.sw_lower_rules.specs.Statements.{default_code, patterns_code, switch_code, switch_targets}
use Rattle.sw_lower_rules.specs.Statements.{switch_to}
use Rattle.sw_lower_rules.specs.Tables.{Tables}
use Rattle.sw_lower_rules.specs.Uses.{no_shape, shape_at, shape_of}
use Rattle.sw_lower_rules.specs.declared.targets.Targets.{Targets}
use Rattle.sw_lower_run_facts.specs.Made.{index}
use Rattle.sw_lower_run_facts.proofs.Runs.{done_ran, made_of, ran_both, scope_ran}
use Rattle.sw_lower_run_facts.proofs.Steps.{block_ran}
use Rattle.sw_tree_work.specs.Forms.{CaseWork, ExprWork, StmtWork, arm_work, patterns_work, ways}
use Rattle.sw_tree_work.specs.Trees.{cases_in, cases_of, switch_work}
use Rattle.sw_tree_work.specs.Work as work
use Rattle.sw_tree_work.specs.Work.{Before, Work}
use Rattle.sw_spots.specs.Doing.{AreUnseen, Leads, Leaves, Reads}
use Rattle.sw_spots.specs.Forms.{facts_of}
use Rattle.sw_spots.specs.Making.{AreOnce, ArePending, IsFinal, IsOne, IsReady, Went, spot_of}
use Rattle.sw_spots.specs.Spots.{Enters, GoesTo, IsEnd, IsSeen, Program, Ring, Spot, Stands, WaysStand}
use Rattle.sw_spots.proofs.Going.{final_first, final_last, ready_later, ready_with, same_spot, went_both}
use Rattle.sw_spots.proofs.Going.{went_none}
use Rattle.sw_spots.proofs.Joining.{fits_between, ran_known}
use Rattle.sw_spots.proofs.Turning.{ended_by, turned, turned_going, went_block}
use Rattle.sw_spots_stmt.proofs.Declaring.{ArePatternsApart, BindsOne, taken}
use Rattle.sw_spots_stmt.proofs.Parting as parts
use Rattle.sw_spots_stmt.proofs.Parting.{Part, PartLeft, PartStands, PartsEnter, PartsStand}
use Rattle.sw_spots_stmt.proofs.Parting.{waiting}
use Rattle.sw_spots_stmt.proofs.Stating.{Joins, cut_same, final_cut, seen_both, seen_same, went_cut}

-- Blocks were made, and nothing else: those from one number to another.
record Made (s t : Making) : Type 0 where
  pub went : Went s t
  pub here : t.here ≡ s.here
  pub vars : t.vars ≡ s.vars
  pub over : t.over ≡ s.over
  pub instrs : (b : ℕ) → instrs_at b t.made.blocks ≡ instrs_at b s.made.blocks

-- the numbers from one on, up to another
abbrev IsRising : ℕ → List ℕ → ℕ → Type 0
IsRising from [] to = from ≡ to
IsRising from (n ∷ more) to = (n ≡ from) × IsRising (suc from) more to

rising_more : (from mid to : ℕ) (some others : List ℕ) → IsRising from some mid
    → IsRising mid others to → IsRising from (some ++ others) to
rising_more from mid to [] others first second =
    subst (λ n. IsRising n others to) (sym first) second
rising_more from mid to (n ∷ some) others first second =
    (first.0, rising_more (suc from) mid to some others first.1 second)

rising_within : (from to : ℕ) (all : List ℕ) → IsRising from all to → from ≤ to
rising_within from to [] rising = omega (arith, rising)
rising_within from to (n ∷ more) rising =
    let rest = rising_within (suc from) to more rising.1 in omega (arith, rest)

rising_one : (from to : ℕ) (all : List ℕ) → IsRising from all to → (b : ℕ) → IsOne all b
    → (from ≤ b) × (b < to)
rising_one from to [] rising b one = absurd one
rising_one from to (n ∷ more) rising b (inl same) =
    let rest = rising_within (suc from) to more rising.1 in
    let is = rising.0 in
    (omega (arith, is, same), omega (arith, is, same, rest))
rising_one from to (n ∷ more) rising b (inr one) =
    let rest = rising_one (suc from) to more rising.1 b one in
    let low = rest.0 in
    (omega (arith, low), rest.1)

rising_once : (from to : ℕ) (all : List ℕ) → IsRising from all to → AreOnce all
rising_once from to [] rising = tt
rising_once from to (n ∷ more) rising = (
  (λ one. let rest = rising_one (suc from) to more rising.1 n one in
      let low = rest.0 in let is = rising.0 in omega (arith, low, is)),
  rising_once (suc from) to more rising.1,
)

made_none : (s : Making) → IsGoing s → s.over ≡ false → Made s s
made_none s going fits = record {
  went = went_none (λ b. b ≡ s.here) s refl going fits;
  here = refl;
  vars = refl;
  over = refl;
  instrs = λ b. refl;
}

made_both : (s m t : Making) → Made s m → Made m t → Made s t
made_both s m t one two = record {
  went = went_both (λ b. b ≡ s.here) s m t one.went two.went;
  here = two.here ∙ one.here;
  vars = two.vars ∙ one.vars;
  over = two.over ∙ one.over;
  instrs = λ b. two.instrs b ∙ one.instrs b;
}

made_block : (entry : Entry) (s t : Making) (number : ℕ) → IsGoing s → t.over ≡ false
    → (block_for entry).run s ≡ Ok (number, t) → Made s t
made_block entry s t number going fits ran =
    let is = block_ran entry s t number ran in
    record {
      went = went_block entry s t number going fits ran;
      here = is.here;
      vars = is.vars;
      over = is.over;
      instrs = is.instrs;
    }

-- past all blocks there are no instructions
past_empty : (blocks : List Block) (b : ℕ) → length blocks ≤ b → instrs_at b blocks ≡ []
unfolding instrs_at
past_empty [] b above = refl
past_empty (block ∷ blocks) zero above = absurd (let c : ⊥ = omega (arith, above) in c)
past_empty (block ∷ blocks) (suc b) above = past_empty blocks b (omega (arith, above))

made_pending : (s t : Making) → Made s t → IsGoing s
    → ArePending (λ b. (length s.made.blocks ≤ b) × (b < length t.made.blocks)) t
made_pending s t made going = record {
  apart = λ b one same. let low = one.0 in let here = made.here in
      omega (arith, low, same, here, going);
  below = λ b one. one.1;
  empty = λ b one. made.instrs b ∙ past_empty s.made.blocks b one.0;
}

same_name : (one other : ℕ) → one ≡ other → (one == other) ≡ true
same_name one other same = by (one == other) (eqb_tells one other) where
  by : (is : Bool) → ((is ≡ true) × (one ≡ other)) ⊎ ((is ≡ false) × (one ≢ other)) → is ≡ true
  by is (inl tells) = tells.0
  by is (inr tells) = absurd (tells.1 same)

other_name : (one other : ℕ) → one ≢ other → (one == other) ≡ false
other_name one other apart = by (one == other) (eqb_tells one other) where
  by : (is : Bool) → ((is ≡ true) × (one ≡ other)) ⊎ ((is ≡ false) × (one ≢ other)) → is ≡ false
  by is (inl tells) = absurd (apart tells.1)
  by is (inr tells) = tells.0

-- a `switch` goes to the block of the first arm of a case, else to that of `default`
goes_to : (cases : List CaseShape) (arms : List Arm) (otherwise name block : ℕ)
    → GoesTo cases (switch_to cases arms otherwise) name block
    → block ≡ unwrap_or (block_of arms name) otherwise
goes_to cases arms otherwise name block to =
    let f = λ (one : CaseShape). unwrap_or (block_of arms one.name) otherwise in
    some (sym to.4 ∙ slice_get-map f cases to.0 ∙ ap (option_map f) to.2)
    ∙ ap (λ n. unwrap_or (block_of arms n) otherwise) to.3 where
      some : {x y : ℕ} → Some x ≡ Some y → x ≡ y
      some same = cc

module _ (p : Program) (numbers : Numbers) (tables : Tables) where
  -- An arm with its work, in a statement that declares such keys. Its body declares such that its
  -- patterns don't.
  pub record CaseStands (Declares : ℕ → Type 0) (arm : CaseCode) (one : CaseWork) : Type 0 where
    pub name : arm.name.id ≡ one.name
    pub patterns : arm.patterns ≡ one.patterns
    pub apart : ArePatternsApart arm.patterns
    pub within : (key : ℕ) → BindsOne arm.patterns key → Declares key
    pub body : Leaves p numbers (λ key. Declares key × (BindsOne arm.patterns key → ⊥)) arm.body.code
        one.body.work

  abbrev pub CasesStand : (ℕ → Type 0) → List CaseCode → List CaseWork → Type 0
  CasesStand Declares [] [] = Unit {0}
  CasesStand Declares (arm ∷ arms) (one ∷ ones) =
      CaseStands Declares arm one × CasesStand Declares arms ones
  CasesStand Declares _ _ = ⊥

  abbrev pub DefaultStands : (ℕ → Type 0) → Option BlockCode → Option StmtWork → Type 0
  DefaultStands Declares None None = Unit {0}
  DefaultStands Declares (Some block) (Some one) = Leaves p numbers Declares block.code one.work
  DefaultStands Declares _ _ = ⊥

  module _ (Declares : ℕ → Type 0) (given : Operand) (targets : Targets) where
    -- the code of an arm, and its work
    abbrev arm_inner : CaseCode → Code (Unit {0})
    arm_inner arm = patterns_code tables given 0 arm.patterns >> arm.body.code targets

    abbrev way_of : CaseWork → Work → Before
    way_of one breaks rest =
        patterns_work 0 one.patterns (work.Then work.Drop (one.body.work breaks rest))

    abbrev arm_part : CaseCode → CaseWork → ℕ → Part
    arm_part arm one block =
        record { block = block; code = scope (arm_inner arm); work = way_of one }

    arm_stands : (arm : CaseCode) (one : CaseWork) (block : ℕ) → CaseStands Declares arm one
        → PartStands p numbers Declares given.reg targets (arm_part arm one block)
    arm_stands arm one block is u v ready unseen fits ran =
        let r = scope_ran (arm_inner arm) u v tt ran in
        let w = r.0 in
        let both = ran_both (patterns_code tables given 0 arm.patterns)
        (λ done. arm.body.code targets) u w tt r.1 in
        let x = both.1 in
        let fits_w : w.over ≡ false = sym (ap (λ (y : Making). y.over) r.2) ∙ fits in
        let fits_x = fits_between (patterns_code tables given 0 arm.patterns) (arm.body.code targets)
        u x w tt tt ready.going both.2 both.3 fits_w in
        let a = taken p numbers tables arm.patterns 0 given u x is.apart ready
        (λ key one. unseen key (is.within key one)) fits_x both.2 in
        let b = is.body targets x w (ready_with numbers x (given.reg ∷ []) [] a.ready tt)
        (λ key one. a.others key one.1 ∙ unseen key one.0) fits_w both.3 in
        let same = cut_same (arm_inner arm) u w ready.going r.1 in
        subst (PartLeft p numbers Declares given.reg targets (arm_part arm one block) u) (sym r.2)
        (record {
          went = went_cut u w (take (length u.vars) w.vars)
              (went_both (λ b. b ≡ u.here) u x w a.went b.went);
          vars = same;
          stands = λ f rings breaks base rest final leads seen stands.
              let whole = final_cut f u w (take (length u.vars) w.vars) final in
              subst (λ all. Stands p (patterns_work 0 all
              (work.Then work.Drop (one.body.work breaks rest))) f rings
              (spot_of u (given.reg ∷ []))) is.patterns
              (a.stands f rings (work.Then work.Drop (one.body.work breaks rest))
              (final_first f u x w b.went whole)
              (b.stands f rings breaks base rest (final_last f u x w a.went whole) leads
              (seen_both base u.vars x.vars seen a.seen)
              (λ vars more. stands vars (seen_both u.vars x.vars vars a.seen more))));
        })

    abbrev default_part : BlockCode → StmtWork → ℕ → Part
    default_part block one number = record {
      block = number;
      code = block.code targets;
      work = λ breaks rest. work.Then work.Drop (one.work breaks rest);
    }

    default_stands : (block : BlockCode) (one : StmtWork) (number : ℕ)
        → Leaves p numbers Declares block.code one.work
        → PartStands p numbers Declares given.reg targets (default_part block one number)
    default_stands block one number is u v ready unseen fits ran =
        let a = is targets u v (ready_with numbers u (given.reg ∷ []) [] ready tt) unseen fits ran in
        record { went = a.went; vars = a.vars; stands = a.stands }

    -- the parts of a `switch`
    abbrev arm_parts : List Arm → List CaseWork → List Part
    arm_parts [] ones = []
    arm_parts arms [] = []
    arm_parts (a ∷ arms) (one ∷ ones) = arm_part a.arm one a.block ∷ arm_parts arms ones

    abbrev default_parts : Option BlockCode → Option StmtWork → Option ℕ → List Part
    default_parts (Some block) (Some one) (Some number) = default_part block one number ∷ []
    default_parts _ _ _ = []

    abbrev arms_of : List Arm → List CaseCode
    arms_of arms = map (λ (a : Arm). a.arm) arms

    arm_parts_stand : (arms : List Arm) (ones : List CaseWork) (more : List Part)
        → CasesStand Declares (arms_of arms) ones
        → PartsStand p numbers Declares given.reg targets more
        → PartsStand p numbers Declares given.reg targets (arm_parts arms ones ++ more)
    arm_parts_stand [] [] more are last = last
    arm_parts_stand (a ∷ arms) (one ∷ ones) more are last =
        (arm_stands a.arm one a.block are.0, arm_parts_stand arms ones more are.1 last)
    arm_parts_stand [] (one ∷ ones) more are last = absurd are
    arm_parts_stand (a ∷ arms) [] more are last = absurd are

    default_parts_stand : (otherwise : Option BlockCode) (one : Option StmtWork)
        (number : Option ℕ) → DefaultStands Declares otherwise one
        → PartsStand p numbers Declares given.reg targets (default_parts otherwise one number)
    default_parts_stand None None number is = tt
    default_parts_stand None (Some one) number is = tt
    default_parts_stand (Some block) None number is = tt
    default_parts_stand (Some block) (Some one) None is = tt
    default_parts_stand (Some block) (Some one) (Some number) is =
        (default_stands block one number is, tt)

    -- where a `switch` goes, its ways stand
    module _ (f : Function) (rings : List Ring) (vars : List Bound) (rest : Work) where
      abbrev at_block : ℕ → Work → Type 0
      at_block block way =
          Enters f block vars (given.reg ∷ []) (λ next. Stands p way f rings next)

      abbrev last_way : Option StmtWork → Work
      last_way None = work.Then work.Drop rest
      last_way (Some block) = arm_work block rest

      there : (spot : Spot) (block : ℕ) (way : Work) → spot.vars ≡ vars
          → spot.temps ≡ given.reg ∷ [] → at_block block way → (to : ℕ) → to ≡ block
          → Enters f to spot.vars spot.temps (λ next. Stands p way f rings next)
      there spot block way seen regs is to same =
          subst (λ n. Enters f n spot.vars spot.temps (λ next. Stands p way f rings next)) (sym same)
          (subst (λ v. Enters f block v spot.temps (λ next. Stands p way f rings next)) (sym seen)
          (subst (λ t. Enters f block vars t (λ next. Stands p way f rings next)) (sym regs) is))

      ways_stand : (arms : List Arm) (ones : List CaseWork) (other : Option StmtWork)
          (otherwise : ℕ) (more : List Part) (spot : Spot) (Goes : ℕ → ℕ → Type 0)
          → spot.vars ≡ vars → spot.temps ≡ given.reg ∷ []
          → CasesStand Declares (arms_of arms) ones
          → PartsEnter p numbers Declares given.reg targets (arm_parts arms ones ++ more) f rings
          vars rest → at_block otherwise (last_way other)
          → ((name block : ℕ) → Goes name block
          → block ≡ unwrap_or (block_of arms name) otherwise)
          → WaysStand p (ways ones other rest) f rings Goes spot
      ways_stand [] [] None otherwise more spot Goes seen regs are enter last goes = λ name block to.
          there spot otherwise (last_way None) seen regs last block (goes name block to)
      ways_stand [] [] (Some one) otherwise more spot Goes seen regs are enter last goes =
          λ name block to.
          there spot otherwise (last_way (Some one)) seen regs last block (goes name block to)
      ways_stand (a ∷ arms) (one ∷ ones) other otherwise more spot Goes seen regs are enter last goes = (
        (λ block to. there spot a.block (way_of one (work.Jump rest) (work.Jump rest)) seen regs enter.0
            block (goes one.name block to
            ∙ ap (λ is. unwrap_or (if is then Some a.block else block_of arms one.name) otherwise)
            (same_name a.arm.name.id one.name are.0.name))),
        ways_stand arms ones other otherwise more spot
            (λ name block. Goes name block × (name ≢ one.name)) seen regs are.1 enter.1 last
            (λ name block to. goes name block to.0
            ∙ ap (λ is. unwrap_or (if is then Some a.block else block_of arms name) otherwise)
            (other_name a.arm.name.id name (λ same. to.1 (sym same ∙ are.0.name)))),
      )
      ways_stand [] (one ∷ ones) other otherwise more spot Goes seen regs are enter last goes =
          absurd are
      ways_stand (a ∷ arms) [] other otherwise more spot Goes seen regs are enter last goes = absurd are

  -- the blocks of a `switch`
  module _ (given : Operand) (number : ℕ) (shape : Shape) where
    record ArmsMade (s t : Making) (blocks : List Arm) : Type 0 where
      pub made : Made s t
      pub rising : IsRising (length s.made.blocks) (map (λ (a : Arm). a.block) blocks)
          (length t.made.blocks)

    arms_same : (arms : List CaseCode) (s t : Making) (blocks : List Arm)
        → (each (arm_block tables given number shape) arms).run s ≡ Ok (blocks, t)
        → map (λ (a : Arm). a.arm) blocks ≡ arms
    unfolding each
    arms_same [] s t blocks ran = ap (map (λ (a : Arm). a.arm)) (sym (done_ran [] blocks s t ran).0)
    arms_same (arm ∷ arms) s t blocks ran =
        let code = arm_block tables given number shape in
        let a = ran_both (code arm) (λ y. each code arms >>= λ ys. done (y ∷ ys)) s t blocks ran in
        let b = ran_both (each code arms) (λ ys. done (a.0 ∷ ys)) a.1 t blocks a.3 in
        let tag = ran_known 0 (case_from 0 shape.cases arm.name.id)
        (λ tag. block_for (OfCase given.reg number tag)
        >>= λ block. done (record { arm = arm; block = block })) s a.1 a.0 a.2 in
        let c = ran_both (block_for (OfCase given.reg number tag.0))
        (λ block. done (record { arm = arm; block = block })) s a.1 a.0 tag.2 in
        let one = done_ran (record { arm = arm; block = c.0 }) a.0 c.1 a.1 c.3 in
        ap (map (λ (x : Arm). x.arm)) (sym (done_ran (a.0 ∷ b.0) blocks b.1 t b.3).0)
        ∙ ap (λ x. x ∷ map (λ (y : Arm). y.arm) b.0) (ap (λ (x : Arm). x.arm) (sym one.0))
        ∙ ap (λ list. arm ∷ list) (arms_same arms a.1 b.1 b.0 b.2)

    arms_made : (arms : List CaseCode) (s t : Making) (blocks : List Arm) → IsGoing s
        → t.over ≡ false → (each (arm_block tables given number shape) arms).run s ≡ Ok (blocks, t)
        → ArmsMade s t blocks
    unfolding each
    arms_made [] s t blocks going fits ran =
        let is = done_ran [] blocks s t ran in
        subst (λ u. ArmsMade s u blocks) is.1 (subst (ArmsMade s s) is.0 (record {
          made = made_none s going (ap (λ (x : Making). x.over) is.1 ∙ fits);
          rising = refl;
        }))
    arms_made (arm ∷ arms) s t blocks going fits ran =
        let code = arm_block tables given number shape in
        let a = ran_both (code arm) (λ y. each code arms >>= λ ys. done (y ∷ ys)) s t blocks ran in
        let b = ran_both (each code arms) (λ ys. done (a.0 ∷ ys)) a.1 t blocks a.3 in
        let is = done_ran (a.0 ∷ b.0) blocks b.1 t b.3 in
        let tag = ran_known 0 (case_from 0 shape.cases arm.name.id)
        (λ tag. block_for (OfCase given.reg number tag)
        >>= λ block. done (record { arm = arm; block = block })) s a.1 a.0 a.2 in
        let entry = OfCase given.reg number tag.0 in
        let c = ran_both (block_for entry)
        (λ block. done (record { arm = arm; block = block })) s a.1 a.0 tag.2 in
        let one = done_ran (record { arm = arm; block = c.0 }) a.0 c.1 a.1 c.3 in
        let block = block_ran entry s c.1 c.0 c.2 in
        let fits_b : b.1.over ≡ false = ap (λ (x : Making). x.over) is.1 ∙ fits in
        let going_a = (made_of (code arm) s a.1 a.0 going a.2).1.there in
        let later = arms_made arms a.1 b.1 b.0 going_a fits_b b.2 in
        let fits_c : c.1.over ≡ false =
        ap (λ (x : Making). x.over) one.1 ∙ (sym later.made.over ∙ fits_b) in
        let here = subst (Made s) one.1 (made_block entry s c.1 c.0 going fits_c c.2) in
        let n = ap (λ (x : Arm). x.block) one.0 in
        let m = ap (λ (x : Making). length x.made.blocks) one.1 in
        let p = block.number in
        let q = block.count in
        subst (λ u. ArmsMade s u blocks) is.1
        (subst (ArmsMade s b.1) is.0 (record {
          made = made_both s a.1 b.1 here later.made;
          rising = (
            sym n ∙ p,
            subst (λ from. IsRising from (map (λ (a : Arm). a.block) b.0) (length b.1.made.blocks))
                (sym m ∙ q) later.rising,
          );
        }))

  -- the numbers of `default`'s block, if there is one
  abbrev default_number : Option ℕ → List ℕ
  default_number None = []
  default_number (Some number) = number ∷ []

  record DefaultMade (otherwise : Option BlockCode) (s t : Making) (default : Option ℕ) : Type 0 where
    pub made : Made s t
    pub rising : IsRising (length s.made.blocks) (default_number default) (length t.made.blocks)
    pub is : (block : BlockCode) → otherwise ≡ Some block → (number : ℕ) × (default ≡ Some number)
    pub none : otherwise ≡ None → default ≡ None

  default_made : (otherwise : Option BlockCode) (s t : Making) (default : Option ℕ) → IsGoing s
      → t.over ≡ false → (default_block tables otherwise).run s ≡ Ok (default, t)
      → DefaultMade otherwise s t default
  default_made None s t default going fits ran =
      let is = done_ran None default s t ran in
      subst (λ u. DefaultMade None s u default) is.1 (subst (DefaultMade None s s) is.0 (record {
        made = made_none s going (ap (λ (x : Making). x.over) is.1 ∙ fits);
        rising = refl;
        is = λ block some. cc;
        none = λ same. refl;
      }))
  default_made (Some block) s t default going fits ran =
      let a = ran_both block_made (λ number. done (Some number)) s t default ran in
      let is = done_ran (Some a.0) default a.1 t a.3 in
      let b = block_ran Anywhere s a.1 a.0 a.2 in
      let count = b.count in
      subst (λ u. DefaultMade (Some block) s u default) is.1
      (subst (DefaultMade (Some block) s a.1) is.0 (record {
        made = made_block Anywhere s a.1 a.0 going (ap (λ (x : Making). x.over) is.1 ∙ fits) a.2;
        rising = (b.number, sym count);
        is = λ block some. (a.0, refl);
        none = λ same. cc;
      }))

  module _ (Declares : ℕ → Type 0) (given : Operand) (targets : Targets) (merge : ℕ) where
    abbrev inner_targets : Targets
    inner_targets = switch_targets tables targets merge

    -- the parts run one after the other
    default_ran : (otherwise : Option BlockCode) (one : Option StmtWork) (default : Option ℕ)
        (m c d t : Making) (how : Last) → DefaultStands Declares otherwise one → IsGoing m
        → (close how).run m ≡ Ok (tt, c)
        → (default_code tables otherwise default targets merge).run c ≡ Ok (tt, d)
        → (resume merge).run d ≡ Ok (tt, t)
        → parts.Ran merge (default_parts Declares given inner_targets otherwise one default) m how t
    default_ran None None None m c d t how is going closed ran merged =
        let same = done_ran tt tt c d ran in
        turned how merge m c t tt tt going closed
        (subst (λ x. (resume merge).run x ≡ Ok (tt, t)) (sym same.1) merged)
    default_ran None None (Some number) m c d t how is going closed ran merged =
        let same = done_ran tt tt c d ran in
        turned how merge m c t tt tt going closed
        (subst (λ x. (resume merge).run x ≡ Ok (tt, t)) (sym same.1) merged)
    default_ran (Some block) (Some one) None m c d t how is going closed ran merged =
        let same = done_ran tt tt c d ran in
        turned how merge m c t tt tt going closed
        (subst (λ x. (resume merge).run x ≡ Ok (tt, t)) (sym same.1) merged)
    default_ran (Some block) (Some one) (Some number) m c d t how is going closed ran merged =
        let a = ran_both (resume number) (λ done. block.code inner_targets >> jump merge) c d tt ran in
        let b = ran_both (block.code inner_targets) (λ done. jump merge) a.1 d tt a.3 in
        let turn = turned how number m c a.1 tt tt going closed a.2 in
        let going_v = (made_of (block.code inner_targets) a.1 b.1 tt
        (turned_going m a.1 how number turn) b.2).1.there in (
          a.1,
          b.1,
          turn,
          b.2,
          turned (last.Jump merge) merge b.1 d t tt tt going_v b.3 merged,
        )
    default_ran None (Some one) default m c d t how is going closed ran merged = absurd is
    default_ran (Some block) None default m c d t how is going closed ran merged = absurd is

    arms_ran : (arms : List Arm) (ones : List CaseWork) (more : List Part) (m c d t : Making)
        (how : Last) → CasesStand Declares (arms_of Declares given inner_targets arms) ones
        → IsGoing m → (close how).run m ≡ Ok (tt, c)
        → (all (arm_code tables given targets merge) arms).run c ≡ Ok (tt, d)
        → ((n : Making) (other : Last) → IsGoing n → (close other).run n ≡ Ok (tt, d)
        → parts.Ran merge more n other t)
        → parts.Ran merge (arm_parts Declares given inner_targets arms ones ++ more) m how t
    unfolding all
    arms_ran [] [] more m c d t how are going closed ran next =
        let same = done_ran tt tt c d ran in
        next m how going (subst (λ x. (close how).run m ≡ Ok (tt, x)) same.1 closed)
    arms_ran (a ∷ arms) (one ∷ ones) more m c d t how are going closed ran next =
        let code = scope (arm_inner Declares given inner_targets a.arm) in
        let both = ran_both (arm_code tables given targets merge a)
        (λ done. all (arm_code tables given targets merge) arms) c d tt ran in
        let x = ran_both (resume a.block) (λ done. code >> jump merge) c both.1 tt both.2 in
        let y = ran_both code (λ done. jump merge) x.1 both.1 tt x.3 in
        let turn = turned how a.block m c x.1 tt tt going closed x.2 in
        let going_v = (made_of code x.1 y.1 tt (turned_going m x.1 how a.block turn) y.2).1.there in (
          x.1,
          y.1,
          turn,
          y.2,
          arms_ran arms ones more y.1 both.1 d t (last.Jump merge) are.1 going_v y.3 both.3 next,
        )
    arms_ran [] (one ∷ ones) more m c d t how are going closed ran next = absurd are
    arms_ran (a ∷ arms) [] more m c d t how are going closed ran next = absurd are

    -- their blocks wait in order
    arms_rising : (arms : List Arm) (ones : List CaseWork) (more : List Part) (from mid to : ℕ)
        → CasesStand Declares (arms_of Declares given inner_targets arms) ones
        → IsRising from (map (λ (a : Arm). a.block) arms) mid
        → IsRising mid (waiting merge more) to
        → IsRising from (waiting merge (arm_parts Declares given inner_targets arms ones ++ more)) to
    arms_rising [] [] more from mid to are first last =
        subst (λ n. IsRising n (waiting merge more) to) (sym first) last
    arms_rising (a ∷ arms) (one ∷ ones) more from mid to are first last =
        (first.0, arms_rising arms ones more (suc from) mid to are.1 first.1 last)
    arms_rising [] (one ∷ ones) more from mid to are first last = absurd are
    arms_rising (a ∷ arms) [] more from mid to are first last = absurd are

  -- the run of a `switch`, after its subject
  record Ran (otherwise : Option BlockCode) (arms : List CaseCode) (targets : Targets)
      (given : Operand) (number : ℕ) (shape : Shape) (s t : Making) : Type 0 where
    pub blocks : List Arm
    pub one : Making
    pub default : Option ℕ
    pub two : Making
    pub merge : ℕ
    pub three : Making
    pub closed : Making
    pub done : Making
    pub ended : Making
    pub arms_ran : (each (arm_block tables given number shape) arms).run s ≡ Ok (blocks, one)
    pub default_ran : (default_block tables otherwise).run one ≡ Ok (default, two)
    pub merge_ran : block_made.run two ≡ Ok (merge, three)
    pub closed_ran : (close (last.Switch given
        (switch_to shape.cases blocks (unwrap_or default merge)))).run three ≡ Ok (tt, closed)
    pub bodies_ran : (all (arm_code tables given targets merge) blocks).run closed ≡ Ok (tt, done)
    pub last_ran : (default_code tables otherwise default targets merge).run done ≡ Ok (tt, ended)
    pub merged_ran : (resume merge).run ended ≡ Ok (tt, t)

  abbrev code_after : Option BlockCode → List CaseCode → Targets → Operand → ℕ → Shape
      → Code (Unit {0})
  code_after otherwise arms targets given number shape =
      each (arm_block tables given number shape) arms
      >>= λ blocks. default_block tables otherwise
      >>= λ default. block_made
      >>= λ merge. close (last.Switch given
      (switch_to shape.cases blocks (unwrap_or default merge)))
      >> all (arm_code tables given targets merge) blocks
      >> default_code tables otherwise default targets merge
      >> resume merge

  ran : (otherwise : Option BlockCode) (arms : List CaseCode) (targets : Targets) (given : Operand)
      (number : ℕ) (shape : Shape) (s t : Making)
      → (code_after otherwise arms targets given number shape).run s ≡ Ok (tt, t)
      → Ran otherwise arms targets given number shape s t
  ran otherwise arms targets given number shape s t whole =
      let how = λ (blocks : List Arm) (default : Option ℕ) (merge : ℕ).
      last.Switch given (switch_to shape.cases blocks (unwrap_or default merge)) in
      let behind = λ (blocks : List Arm) (default : Option ℕ) (merge : ℕ).
      all (arm_code tables given targets merge) blocks
      >> default_code tables otherwise default targets merge >> resume merge in
      let a = ran_both (each (arm_block tables given number shape) arms)
      (λ blocks. default_block tables otherwise >>= λ default. block_made
      >>= λ merge. close (how blocks default merge) >> behind blocks default merge) s t tt whole in
      let b = ran_both (default_block tables otherwise) (λ default. block_made
      >>= λ merge. close (how a.0 default merge) >> behind a.0 default merge) a.1 t tt a.3 in
      let c = ran_both block_made (λ merge. close (how a.0 b.0 merge) >> behind a.0 b.0 merge) b.1 t tt
      b.3 in
      let d = ran_both (close (how a.0 b.0 c.0)) (λ done. behind a.0 b.0 c.0) c.1 t tt c.3 in
      let e = ran_both (all (arm_code tables given targets c.0) a.0)
      (λ done. default_code tables otherwise b.0 targets c.0 >> resume c.0) d.1 t tt d.3 in
      let g = ran_both (default_code tables otherwise b.0 targets c.0) (λ done. resume c.0) e.1 t tt e.3
      in
      record {
        blocks = a.0;
        one = a.1;
        default = b.0;
        two = b.1;
        merge = c.0;
        three = c.1;
        closed = d.1;
        done = e.1;
        ended = g.1;
        arms_ran = a.2;
        default_ran = b.2;
        merge_ran = c.2;
        closed_ran = d.2;
        bodies_ran = e.2;
        last_ran = g.2;
        merged_ran = g.3;
      }

  some : {x y : ℕ} → Some x ≡ Some y → x ≡ y
  some same = cc

  -- Where the ways of a `switch` stand, after its subject.
  record SwitchLeft (Declares : ℕ → Type 0) (given : Operand) (shape : Shape) (ones : List CaseWork)
      (other : Option StmtWork) (targets : Targets) (s t : Making) : Type 0 where
    pub went : Went s t
    pub vars : t.vars ≡ s.vars
    pub stands : (f : Function) (rings : List Ring) (breaks : Work) (base : List Bound) (rest : Work)
        → IsFinal f s t → Leads p numbers f rings targets breaks base → IsSeen base s.vars
        → Stands p rest f rings (spot_of t [])
        → Stands p (work.Switch shape.cases (ways ones other rest)) f rings
        (spot_of s (given.reg ∷ []))

  module _ (Declares : ℕ → Type 0) (given : Operand) (number : ℕ) (shape : Shape)
      (arms : List CaseCode) (ones : List CaseWork) (otherwise : Option BlockCode)
      (other : Option StmtWork) (targets : Targets) (are : CasesStand Declares arms ones)
      (is_default : DefaultStands Declares otherwise other) where
    -- where `default` stands, or what follows the `switch`
    last_stands : (inner : Targets) (merge : ℕ) (s m : Making) (default : Option ℕ) (f : Function)
        (rings : List Ring) (vars : List Bound) (rest : Work)
        → DefaultMade otherwise s m default
        → Enters f merge vars [] (λ next. Stands p rest f rings next)
        → PartsEnter p numbers Declares given.reg inner
        (default_parts Declares given inner otherwise other default) f rings vars rest
        → at_block Declares given inner f rings vars rest (unwrap_or default merge)
        (last_way Declares given inner f rings vars rest other)
    last_stands inner merge s m default f rings vars rest made merges enter =
        by otherwise other default is_default made.is made.none enter where
          by : (otherwise : Option BlockCode) (other : Option StmtWork) (default : Option ℕ)
              → DefaultStands Declares otherwise other
              → ((block : BlockCode) → otherwise ≡ Some block
              → (number : ℕ) × (default ≡ Some number))
              → (otherwise ≡ None → default ≡ None)
              → PartsEnter p numbers Declares given.reg inner
              (default_parts Declares given inner otherwise other default) f rings vars rest
              → at_block Declares given inner f rings vars rest (unwrap_or default merge)
              (last_way Declares given inner f rings vars rest other)
          by None None None is made none enter = merges
          by None None (Some number) is made none enter =
              absurd (let c : ⊥ = (let wrong = none refl in cc) in c)
          by (Some block) (Some one) (Some number) is made none enter = enter.0
          by (Some block) (Some one) None is made none enter =
              absurd (let c : ⊥ = (let wrong = (made block refl).1 in cc) in c)
          by None (Some one) default is made none enter = absurd is
          by (Some block) None default is made none enter = absurd is

    default_rising : (inner : Targets) (merge : ℕ) (otherwise : Option BlockCode)
        (other : Option StmtWork) (default : Option ℕ) (from mid to : ℕ)
        → DefaultStands Declares otherwise other
        → ((block : BlockCode) → otherwise ≡ Some block → (number : ℕ) × (default ≡ Some number))
        → (otherwise ≡ None → default ≡ None) → IsRising from (default_number default) mid
        → merge ≡ mid → suc mid ≡ to
        → IsRising from
        (waiting merge (default_parts Declares given inner otherwise other default)) to
    default_rising inner merge None None None from mid to is made none rising here end =
        (here ∙ sym rising, ap (λ n. suc n) rising ∙ end)
    default_rising inner merge None None (Some number) from mid to is made none rising here end =
        absurd (let c : ⊥ = (let wrong = none refl in cc) in c)
    default_rising inner merge (Some block) (Some one) (Some number) from mid to is made none rising here
        end = (rising.0, (here ∙ sym rising.1, ap (λ n. suc n) rising.1 ∙ end))
    default_rising inner merge (Some block) (Some one) None from mid to is made none rising here end =
        absurd (let c : ⊥ = (let wrong = (made block refl).1 in cc) in c)
    default_rising inner merge None (Some one) default from mid to is made none rising here end =
        absurd is
    default_rising inner merge (Some block) None default from mid to is made none rising here end =
        absurd is

    arms_enter : (inner : Targets) (blocks : List Arm) (works : List CaseWork) (more : List Part)
        (f : Function) (rings : List Ring) (vars : List Bound) (rest : Work)
        → CasesStand Declares (arms_of Declares given inner blocks) works
        → PartsEnter p numbers Declares given.reg inner
        (arm_parts Declares given inner blocks works ++ more) f rings vars rest
        → PartsEnter p numbers Declares given.reg inner more f rings vars rest
    arms_enter inner [] [] more f rings vars rest are enter = enter
    arms_enter inner (a ∷ blocks) (one ∷ works) more f rings vars rest are enter =
        arms_enter inner blocks works more f rings vars rest are.1 enter.1
    arms_enter inner [] (one ∷ works) more f rings vars rest are enter = absurd are
    arms_enter inner (a ∷ blocks) [] more f rings vars rest are enter = absurd are

    switch_left : (s t : Making) → IsReady numbers s (given.reg ∷ [])
        → AreUnseen p numbers Declares s → t.over ≡ false
        → Ran otherwise arms targets given number shape s t
        → SwitchLeft Declares given shape ones other targets s t
    switch_left s t ready unseen fits r =
        let inner = switch_targets tables targets r.merge in
        let otherwise_to = unwrap_or r.default r.merge in
        let to = switch_to shape.cases r.blocks otherwise_to in
        let how = last.Switch given to in
        let going_one = (made_of (each (arm_block tables given number shape) arms) s r.one r.blocks
        ready.going r.arms_ran).1.there in
        let going_two = (made_of (default_block tables otherwise) r.one r.two r.default going_one
        r.default_ran).1.there in
        let going_three = (made_of block_made r.two r.three r.merge going_two r.merge_ran).1.there in
        -- the parts ran, and nothing was dropped
        let cases = subst (λ list. CasesStand Declares list ones)
        (sym (arms_same given number shape arms s r.one r.blocks r.arms_ran)) are in
        let more = default_parts Declares given inner otherwise other r.default in
        let all_parts = arm_parts Declares given inner r.blocks ones ++ more in
        let run = arms_ran Declares given targets r.merge r.blocks ones more r.three r.closed r.done t
        how cases going_three r.closed_ran r.bodies_ran (λ n other_how going closed.
        default_ran Declares given targets r.merge otherwise other r.default n r.done r.ended t other_how
        is_default going closed r.last_ran r.merged_ran) in
        let fits_three = parts.ran_fits r.merge all_parts r.three t how run fits in
        -- blocks were made, in order
        let merged = made_block Anywhere r.two r.three r.merge going_two fits_three r.merge_ran in
        let block = block_ran Anywhere r.two r.three r.merge r.merge_ran in
        let fits_two : r.two.over ≡ false = sym merged.over ∙ fits_three in
        let second = default_made otherwise r.one r.two r.default going_one fits_two r.default_ran in
        let fits_one : r.one.over ≡ false = sym second.made.over ∙ fits_two in
        let first = arms_made given number shape arms s r.one r.blocks ready.going fits_one r.arms_ran in
        let made = made_both s r.one r.three first.made
        (made_both r.one r.two r.three second.made merged) in
        let rising = arms_rising Declares given targets r.merge r.blocks ones more
        (length s.made.blocks) (length r.one.made.blocks) (length r.three.made.blocks) cases first.rising
        (default_rising inner r.merge otherwise other r.default (length r.one.made.blocks)
        (length r.two.made.blocks) (length r.three.made.blocks) is_default second.is second.none
        second.rising block.number (sym block.count)) in
        let waits = waiting r.merge all_parts in
        let within = rising_one (length s.made.blocks) (length r.three.made.blocks) waits rising in
        let new = made_pending s r.three made ready.going in
        let pending : ArePending (IsOne waits) r.three = record {
          apart = λ b one. new.apart b (within b one);
          below = λ b one. new.below b (within b one);
          empty = λ b one. new.empty b (within b one);
        } in
        -- the parts, and what follows them
        let left = parts.rest p numbers Declares given.reg inner r.merge s t ready unseen fits all_parts
        r.three how (arm_parts_stand Declares given inner r.blocks ones more cases
        (default_parts_stand Declares given inner otherwise other r.default is_default)) run made.went
        made.vars pending (rising_once (length s.made.blocks) (length r.three.made.blocks) waits rising)
        (λ b one. (within b one).0) in
        record {
          went = left.went;
          vars = left.vars;
          stands = λ f rings breaks base rest final leads seen stands.
              let merges = left.merges f rings rest final stands in
              let enter = left.enter f rings rest final (record {
                breaks_to = λ n is spot none ends on. (
                  r.merge,
                  s.vars,
                  subst (λ k. IsEnd f spot (last.Jump k)) (sym (some is)) ends,
                  on,
                  subst (λ temps. Enters f r.merge s.vars temps
                      (λ next. Stands p rest f rings next)) (sym none) merges,
                );
                continues_to = λ n is spot none ends on.
                    leads.continues_to n is spot none ends (seen_both base s.vars spot.vars seen on);
              }) merges in
              let ended = ended_by (IsOne waits) f r.three r.three left.u t how left.next pending
              (went_none (λ n. n ≡ r.three.here) r.three refl going_three fits_three) left.turn
              left.later (final_last f s r.three t made.went final) in (
                to,
                (
                  given,
                  refl,
                  (
                    subst (λ spot. IsEnd f spot how)
                        (same_spot r.three.here s.here (index r.three) (index s) r.three.vars s.vars
                        (given.reg ∷ []) (given.reg ∷ []) made.here
                        (ap (λ b. length (instrs_at b r.three.made.blocks)) made.here
                        ∙ ap length (made.instrs s.here)) made.vars refl)
                        (ended.ends r.three.vars (given.reg ∷ [])),
                    length-map shape.cases
                        (λ (one : CaseShape). unwrap_or (block_of r.blocks one.name) otherwise_to),
                    ways_stand Declares given inner f rings s.vars rest r.blocks ones other otherwise_to more
                        (spot_of s (given.reg ∷ [])) (GoesTo shape.cases to) refl refl cases enter
                        (last_stands inner r.merge r.one r.two r.default f rings s.vars rest second merges
                        (arms_enter inner r.blocks ones more f rings s.vars rest cases enter))
                        (goes_to shape.cases r.blocks otherwise_to),
                  ),
                ),
              );
        }

  pub joins_switch : (Declares : ℕ → Type 0) (subject : ExprCode) (one : ExprWork)
      (arms : List CaseCode) (ones : List CaseWork) (otherwise : Option BlockCode)
      (other : Option StmtWork) → subject.key ≡ one.key → Reads p numbers subject.read one.read
      → CasesStand Declares arms ones → DefaultStands Declares otherwise other
      → Joins p numbers Declares (λ targets. switch_code tables subject arms otherwise targets)
      (λ breaks. switch_work (facts_of tables) one ones other)
  unfolding shape_of shape_at
  joins_switch Declares subject one arms ones otherwise other key reads are is targets s t ready unseen
      fits whole =
      let shapes = tables.world.shapes in
      let found = λ (at : ℕ). named_shape (tables.answers.type_at at) in
      let after = λ (given : Operand) (number : ℕ) (shape : Shape).
      code_after otherwise arms targets given number shape in
      let next = λ (given : Operand) (number : ℕ). shape_at tables number >>= after given number in
      let both = ran_both subject.read (λ given. shape_of tables subject.key >>= next given) s t tt whole
      in
      let given = both.0 in
      let m = both.1 in
      let n = ran_known 0 (found subject.key) (next given) m t tt both.3 in
      let shape = ran_known no_shape (slice_get shapes n.0) (after given n.0) m t tt n.2 in
      let did = reads [] s m given ready
      (fits_between subject.read (shape_of tables subject.key >>= next given) s m t given tt ready.going
      both.2 both.3 fits) both.2 in
      let left = switch_left Declares given n.0 shape.0 arms ones otherwise other targets are is m t
      did.ready (λ other one. ap (var_in other) did.vars ∙ unseen other one) fits
      (ran otherwise arms targets given n.0 shape.0 m t shape.2) in
      let cases : shape.0.cases ≡ cases_of (facts_of tables) one =
      ap (cases_in (facts_of tables)) (sym (ap (λ at. item (found at) shapes) (sym key)
      ∙ ap (λ o. item o shapes) n.1 ∙ shape.1)) in
      record {
        went = went_both (λ b. b ≡ s.here) s m t did.went left.went;
        ready = ready_later numbers m t (given.reg ∷ []) [] did.ready left.went left.vars tt;
        vars = left.vars ∙ did.vars;
        stands = λ f rings breaks base rest final leads seen stands.
            did.stands f rings (work.Switch (cases_of (facts_of tables) one) (ways ones other rest))
            (final_first f s m t left.went final)
            (subst (λ all. Stands p (work.Switch all (ways ones other rest)) f rings
            (spot_of m (given.reg ∷ []))) cases
            (left.stands f rings breaks base rest (final_last f s m t did.went final) leads
            (seen_both base s.vars m.vars seen (seen_same s.vars m.vars did.vars)) stands));
      }
