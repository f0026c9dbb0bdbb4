-- What is said of lists of parts, and of more keys.
use Rattle.std.proofs.Common.{ℕ, ◌⊎◌, inl, inr, List, [], ◌∷◌, ◌++◌, map}
use Rattle.std.proofs.Common.{flat_map, Contains, subst}
use Rattle.std.proofs.lemmas.List.Elements.{Contains-append_left, Contains-append_right, Contains-push}
use Rattle.std.specs.List.{AllByRecursion}
use Rattle.sw_tree.specs.Keys.{Keys, joined, pattern_keys}
use Rattle.sw_tree.specs.declared.stmt.Pattern.{Pattern}
use Rattle.sw_tree.specs.declared.stmt.Pattern.TheVariants.{Skip, Let}
use Rattle.sw_tree_facts.specs.Parts.{StandsIn, Tree}
use Rattle.sw_graph.specs.declared.function.Function.{Function}
use Rattle.sw_lower_plans.specs.Plan.{Numbers}
use Rattle.sw_lower_code.specs.Code.{Code, all}
use Rattle.sw_lower_code.specs.Whole.{Body}
use Rattle.sw_lower_rules.specs.Carriers.{ArgCode, CaseCode, IfCode, LinkCode, StmtCode}
use Rattle.sw_lower_rules.specs.Tables.{Tables}
use Rattle.sw_lower_rules.specs.declared.targets.Targets.{Targets}
use Rattle.sw_tree_work.specs.Forms.{CaseWork, IfWork, LinkWork, StmtWork, in_order}
use Rattle.sw_tree_work.specs.Work.{Before, Work}
use Rattle.sw_spots.specs.Doing.{Leaves, Passes}
use Rattle.sw_spots.specs.Forms.{LinkStands, StmtStands, ValueStands, program}
use Rattle.sw_spots.specs.Making.{AreOnce, IsOne}
use Rattle.sw_spots.specs.Spots.{Program}
use Rattle.sw_spots_expr.proofs.Calls.{ArgsStand}
use Rattle.sw_spots_expr.proofs.Chains.{LinksStand}
use Rattle.sw_spots_stmt.proofs.Branching.{ArmStands, ArmsStand}
use Rattle.sw_spots_stmt.proofs.Declaring.{ArePatternsApart, BindsOne}
use Rattle.sw_spots_stmt.proofs.Stating.{passes_none, passes_then}
use Rattle.sw_spots_stmt.proofs.Switching.{CaseStands, CasesStand}
use Rattle.sw_spots_tree.proofs.Keys.{each_first, each_rest, once_apart, once_first, once_rest, one_first}
use Rattle.sw_spots_tree.proofs.Keys.{one_rest}

-- Of each part of a list something is so, if it stands in the tree, its keys differ, and the bodies in
-- it are made.
pub all_so : {X C : Type 0} (whole : Tree) (Is : Body → Type 0) (tree : X → Tree) (keys : X → Keys)
    (code : X → C) (inside : C → List Body) (P : X → Type 0) (xs : List X)
    → AllByRecursion (λ x. StandsIn (tree x) whole → AreOnce (keys x)
    → AllByRecursion Is (inside (code x)) → P x) xs
    → ((x : X) → Contains xs x → StandsIn (tree x) whole) → AreOnce (joined (map keys xs))
    → AllByRecursion Is (flat_map inside (map code xs)) → AllByRecursion P xs
all_so whole Is tree keys code inside P [] goes stand once are = tt
all_so whole Is tree keys code inside P (x ∷ xs) goes stand once are = (
  goes.0 (stand x (Contains-append_left (x ∷ []) xs x (Contains-push [] x)))
      (once_first (keys x) (joined (map keys xs)) once)
      (each_first Is (inside (code x)) (flat_map inside (map code xs)) are),
  all_so whole Is tree keys code inside P xs goes.1
      (λ y has. stand y (Contains-append_right (x ∷ []) xs y has))
      (once_rest (keys x) (joined (map keys xs)) once)
      (each_rest Is (inside (code x)) (flat_map inside (map code xs)) are),
)

-- a part's keys are among those of all
pub one_joined : {X : Type 0} (keys : X → Keys) (xs : List X) (x : X) (key : ℕ)
    → IsOne (keys x) key → IsOne (joined (map keys (x ∷ xs))) key
one_joined keys xs x key one = one_first (keys x) (joined (map keys xs)) key one

-- patterns
pub binds_one : (patterns : List Pattern) (key : ℕ) → BindsOne patterns key
    → IsOne (flat_map pattern_keys patterns) key
binds_one [] key one = absurd one
binds_one (Skip at ∷ patterns) key (inl one) = absurd one
binds_one (Skip at ∷ patterns) key (inr one) = binds_one patterns key one
binds_one (Let name ∷ patterns) key (inl one) = inl one
binds_one (Let name ∷ patterns) key (inr one) = inr (binds_one patterns key one)

pub patterns_apart : (patterns : List Pattern) → AreOnce (flat_map pattern_keys patterns)
    → ArePatternsApart patterns
patterns_apart [] once = tt
patterns_apart (Skip at ∷ patterns) once =
    ((λ key one other. one), patterns_apart patterns once)
patterns_apart (Let name ∷ patterns) once = (
  (λ key one other. once.0 (subst (IsOne (flat_map pattern_keys patterns)) one
      (binds_one patterns key other))),
  patterns_apart patterns once.1,
)

module _ (p : Program) (numbers : Numbers) where
  -- A statement that declares some keys declares no others.
  pub passes_more : (Declares More : ℕ → Type 0) (code : Targets → Code (Unit {0}))
      (before : Work → Before) → ((key : ℕ) → Declares key → More key)
      → Passes p numbers Declares code before → Passes p numbers More code before
  passes_more Declares More code before within is targets s t ready unseen fits ran =
      let here = is targets s t ready (λ key one. unseen key (within key one)) fits ran in
      record {
        went = here.went;
        ready = here.ready;
        seen = here.seen;
        others = λ key none. here.others key (λ one. none (within key one));
        stands = here.stands;
      }

  pub leaves_more : (Declares More : ℕ → Type 0) (code : Targets → Code (Unit {0}))
      (before : Work → Before) → ((key : ℕ) → Declares key → More key)
      → Leaves p numbers Declares code before → Leaves p numbers More code before
  leaves_more Declares More code before within is targets s t ready unseen fits ran =
      is targets s t ready (λ key one. unseen key (within key one)) fits ran

module _ (tables : Tables) (numbers : Numbers) (functions : List Function) where
  abbrev p : Program
  p = program tables numbers functions

  pub args_stand : {X : Type 0} (code : X → ArgCode) (work : X → Before) (xs : List X)
      → AllByRecursion
      (λ x. ValueStands tables numbers functions (code x).read (work x)) xs
      → ArgsStand tables numbers functions (map code xs) (map work xs)
  args_stand code work [] are = tt
  args_stand code work (x ∷ xs) are = (are.0, args_stand code work xs are.1)

  pub links_stand : {X : Type 0} (code : X → LinkCode) (work : X → LinkWork) (xs : List X)
      → AllByRecursion (λ x. LinkStands tables numbers functions (code x) (work x)) xs
      → LinksStand tables numbers functions (map code xs) (map work xs)
  links_stand code work [] are = tt
  links_stand code work (x ∷ xs) are = (are.0, links_stand code work xs are.1)

  pub arms_stand : {X : Type 0} (keys : X → Keys) (code : X → IfCode) (work : X → IfWork)
      (Declares : ℕ → Type 0) (xs : List X)
      → ((key : ℕ) → IsOne (joined (map keys xs)) key → Declares key)
      → AllByRecursion (λ x. ArmStands p numbers (IsOne (keys x)) (code x) (work x)) xs
      → ArmsStand p numbers Declares (map code xs) (map work xs)
  arms_stand keys code work Declares [] within are = tt
  arms_stand keys code work Declares (x ∷ xs) within are = (
    record {
      cond = are.0.cond;
      body = leaves_more p numbers (IsOne (keys x)) Declares (code x).body.code (work x).body.work
          (λ key one. within key (one_joined keys xs x key one)) are.0.body;
    },
    arms_stand keys code work Declares xs
        (λ key one. within key (one_rest (keys x) (joined (map keys xs)) key one)) are.1,
  )

  pub cases_stand : {X : Type 0} (keys : X → Keys) (code : X → CaseCode) (work : X → CaseWork)
      (Declares : ℕ → Type 0) (xs : List X)
      → ((key : ℕ) → IsOne (joined (map keys xs)) key → Declares key)
      → AllByRecursion (λ x. CaseStands p numbers tables (IsOne (keys x)) (code x) (work x)) xs
      → CasesStand p numbers tables Declares (map code xs) (map work xs)
  cases_stand keys code work Declares [] within are = tt
  cases_stand keys code work Declares (x ∷ xs) within are =
      let in_all = λ (key : ℕ) (one : IsOne (keys x) key).
      within key (one_joined keys xs x key one) in (
        record {
          name = are.0.name;
          patterns = are.0.patterns;
          apart = are.0.apart;
          within = λ key binds. in_all key (are.0.within key binds);
          body = leaves_more p numbers
              (λ key. IsOne (keys x) key × (BindsOne (code x).patterns key → ⊥))
              (λ key. Declares key × (BindsOne (code x).patterns key → ⊥)) (code x).body.code
              (work x).body.work (λ key one. (in_all key one.0, one.1)) are.0.body;
        },
        cases_stand keys code work Declares xs
            (λ key one. within key (one_rest (keys x) (joined (map keys xs)) key one)) are.1,
      )

  -- statements after each other
  pub stmts_pass : {X : Type 0} (keys : X → Keys) (code : X → StmtCode) (work : X → StmtWork)
      (xs : List X) → AreOnce (joined (map keys xs))
      → AllByRecursion
      (λ x. StmtStands tables numbers functions (IsOne (keys x)) (code x) (work x)) xs
      → Passes p numbers (IsOne (joined (map keys xs)))
      (λ targets. all (λ (one : StmtCode). one.code targets) (map code xs))
      (λ breaks. in_order (λ (one : StmtWork). one.work breaks) (map work xs))
  unfolding all
  stmts_pass keys code work [] once are = passes_none p numbers (IsOne [])
  stmts_pass keys code work (x ∷ xs) once are =
      let more = joined (map keys xs) in
      passes_more p numbers (λ key. IsOne (keys x) key ⊎ IsOne more key) (IsOne (keys x ++ more))
      (λ targets. all (λ (one : StmtCode). one.code targets) (map code (x ∷ xs)))
      (λ breaks. in_order (λ (one : StmtWork). one.work breaks) (map work (x ∷ xs)))
      (λ key one. elim one [
        | inl here ↦ one_first (keys x) more key here
        | inr later ↦ one_rest (keys x) more key later
      ])
      (passes_then p numbers (IsOne (keys x)) (IsOne more) (code x).code
      (λ targets. all (λ (one : StmtCode). one.code targets) (map code xs)) (work x).work
      (λ breaks. in_order (λ (one : StmtWork). one.work breaks) (map work xs)) are.0.work
      (stmts_pass keys code work xs (once_rest (keys x) more once) are.1)
      (once_apart (keys x) more once))
