-- What `clap` finds in the words is their command.
use Rattle.std.proofs.Common.{◌≡◌, ◌==◌, ℕ, Bool, true, false, List, [], ◌∷◌, Some}
use Rattle.std.proofs.Common.{refl, subst, codes}
use Rattle.std.proofs.Common.{bytes_eq}
use Rattle.std.specs.List.{AllByRecursion}
use Rattle.std.proofs.lemmas.Slice.Eq.{bytes_eq-Decides}
use Rattle.clap.specs.Walk.{Names, Rule, Text, Walk, nothing_held, walk_from}
use Rattle.clap.specs.Simple.{App, built, is_simple, names_of, subcommand_of}
use Rattle.clap.specs.Faults.{fault_of, is_simple_and_free}
use Rattle.clap.specs.Kinds.{Kinds, or_else}
use Rattle.clap.proofs.OnLiterals.{clap_on_literals}
use Rattle.clap.proofs.FaultLemmas.{stopped_fault}
use Rattle.clap.proofs.WalkLemmas.{walk_stopped}
use Rattle.sw_check_words.specs.Tool.{tool, check_app, pair_app, demo_app}
use Rattle.sw_check_words.specs.Words.{Verify, Run, Trace, Owners, Order, command_of}
use Rattle.sw_check_words.specs.Words.{form_of}
use Rattle.sw_check_words.specs.Read.{command_by, read_rows}
use Rattle.sw_check_words.proofs.Leaves.{IsWord, name, default_option, certificate_option}
use Rattle.sw_check_words.proofs.Leaves.{Agrees, taken, refused, leaf, leaf_fault, leaf_rows}
use Rattle.sw_check_words.proofs.Leaves.{names_in, others_in}
use Rattle.sw_check_words.proofs.Checks.{check_agrees}
use Rattle.sw_check_words.proofs.Pairs.{pair_agrees}
use Rattle.sw_check_words.proofs.Demos.{demo_agrees}

-- `tool` is a command of which `clap` says exactly what it does
pub is_simple_tool : is_simple tool ≡ true
is_simple_tool = refl

pub is_free_tool : is_simple_and_free tool ≡ true
is_free_tool = refl

-- The words after the first go to its command.
record GoesTo (verb : Text) (app : App) (words : List Text) : Type 0 where
  fault : fault_of tool (verb ∷ words) ≡ leaf_fault (leaf app) words
  rows : subcommand_of tool (verb ∷ words) ≡ Some (verb, leaf_rows (leaf app) words)

or_nothing : (kinds : Kinds) → or_else kinds [] ≡ kinds
or_nothing [] = refl
or_nothing (kind ∷ kinds) = refl

-- the walk before the first word
abbrev start : Walk
start = walk_from nothing_held

abbrev rules : List Rule
rules = (built tool).top.rules

abbrev verbs : Names
verbs = names_of (built tool)

to_check : (words : List Text) → GoesTo (codes "check") check_app words
unfolding clap_on_literals
to_check words = record {
  fault = rw (
    ← walk_stopped rules verbs start (codes "check") [] words,
    stopped_fault (built tool).top verbs start (codes "check", []) words,
  ) (or_nothing _);
  rows = rw (← walk_stopped rules verbs start (codes "check") [] words) refl;
}

to_verify : (words : List Text) → GoesTo (codes "verify") (pair_app (codes "verify")) words
unfolding clap_on_literals
to_verify words = record {
  fault = rw (
    ← walk_stopped rules verbs start (codes "verify") [] words,
    stopped_fault (built tool).top verbs start (codes "verify", []) words,
  ) (or_nothing _);
  rows = rw (← walk_stopped rules verbs start (codes "verify") [] words) refl;
}

to_run : (words : List Text) → GoesTo (codes "run") (pair_app (codes "run")) words
unfolding clap_on_literals
to_run words = record {
  fault = rw (
    ← walk_stopped rules verbs start (codes "run") [] words,
    stopped_fault (built tool).top verbs start (codes "run", []) words,
  ) (or_nothing _);
  rows = rw (← walk_stopped rules verbs start (codes "run") [] words) refl;
}

to_trace : (words : List Text) → GoesTo (codes "trace") (pair_app (codes "trace")) words
unfolding clap_on_literals
to_trace words = record {
  fault = rw (
    ← walk_stopped rules verbs start (codes "trace") [] words,
    stopped_fault (built tool).top verbs start (codes "trace", []) words,
  ) (or_nothing _);
  rows = rw (← walk_stopped rules verbs start (codes "trace") [] words) refl;
}

to_owners : (words : List Text) → GoesTo (codes "owners") (pair_app (codes "owners")) words
unfolding clap_on_literals
to_owners words = record {
  fault = rw (
    ← walk_stopped rules verbs start (codes "owners") [] words,
    stopped_fault (built tool).top verbs start (codes "owners", []) words,
  ) (or_nothing _);
  rows = rw (← walk_stopped rules verbs start (codes "owners") [] words) refl;
}

to_order : (words : List Text) → GoesTo (codes "order") (pair_app (codes "order")) words
unfolding clap_on_literals
to_order words = record {
  fault = rw (
    ← walk_stopped rules verbs start (codes "order") [] words,
    stopped_fault (built tool).top verbs start (codes "order", []) words,
  ) (or_nothing _);
  rows = rw (← walk_stopped rules verbs start (codes "order") [] words) refl;
}

to_demo : (words : List Text) → GoesTo (codes "demo") demo_app words
unfolding clap_on_literals
to_demo words = record {
  fault = rw (
    ← walk_stopped rules verbs start (codes "demo") [] words,
    stopped_fault (built tool).top verbs start (codes "demo", []) words,
  ) (or_nothing _);
  rows = rw (← walk_stopped rules verbs start (codes "demo") [] words) refl;
}

abbrev AgreesOn : List Text → Type 0
AgreesOn words =
    Agrees (command_of words) (fault_of tool words) (read_rows (subcommand_of tool words))

-- a command of the tool is read as its form says
by_leaf : (verb : Text) (app : App) (words : List Text) → GoesTo verb app words
    → Agrees (form_of verb (names_in words) (others_in words)) (leaf_fault (leaf app) words)
    (command_by verb (leaf_rows (leaf app) words)) → AgreesOn (verb ∷ words)
unfolding command_of
by_leaf verb app words goes agrees = rw (goes.fault, goes.rows) agrees

-- it is one word, or another
decide : {A : Type 0} (verb word : List ℕ) → (verb ≡ word → A)
    → (bytes_eq verb word ≡ false → A) → A
decide {A} verb word same other = by (bytes_eq verb word) refl where
  by : (is : Bool) → bytes_eq verb word ≡ is → A
  by true is = same ((bytes_eq-Decides verb word).0 is)
  by false is = other is

module _ (words : List Text) (are : AllByRecursion IsWord words) where
  -- the first word is no command
  unknown : (first : ℕ) (rest : List ℕ) → (first == 45) ≡ false
      → bytes_eq (codes "check") (first ∷ rest) ≡ false
      → bytes_eq (codes "verify") (first ∷ rest) ≡ false
      → bytes_eq (codes "run") (first ∷ rest) ≡ false
      → bytes_eq (codes "trace") (first ∷ rest) ≡ false
      → bytes_eq (codes "owners") (first ∷ rest) ≡ false
      → bytes_eq (codes "order") (first ∷ rest) ≡ false
      → bytes_eq (codes "demo") (first ∷ rest) ≡ false
      → AgreesOn ((first ∷ rest) ∷ words)
  unfolding clap_on_literals command_of
  unknown first rest e check verify run trace owners order demo =
      refused (simp (check, verify, run, trace, owners, order, demo, e) refl)
      (simp (check, verify, run, trace, owners, order, demo) refl)

  first_word : (first : ℕ) (rest : List ℕ) → (first == 45) ≡ false
      → AgreesOn ((first ∷ rest) ∷ words)
  first_word first rest e =
      by (codes "check") check_app (to_check words) (check_agrees words are) (λ check.
      by (codes "verify") (pair_app (codes "verify")) (to_verify words)
      (pair_agrees (codes "verify") Verify words are) (λ verify.
      by (codes "run") (pair_app (codes "run")) (to_run words)
      (pair_agrees (codes "run") Run words are) (λ run.
      by (codes "trace") (pair_app (codes "trace")) (to_trace words)
      (pair_agrees (codes "trace") Trace words are) (λ trace.
      by (codes "owners") (pair_app (codes "owners")) (to_owners words)
      (pair_agrees (codes "owners") Owners words are) (λ owners.
      by (codes "order") (pair_app (codes "order")) (to_order words)
      (pair_agrees (codes "order") Order words are) (λ order.
      by (codes "demo") demo_app (to_demo words) (demo_agrees words are) (λ demo.
      unknown first rest e check verify run trace owners order demo))))))) where
        -- the first word is the name of this command, or another
        by : (verb : List ℕ) (app : App) → GoesTo verb app words
            → Agrees (form_of verb (names_in words) (others_in words)) (leaf_fault (leaf app) words)
            (command_by verb (leaf_rows (leaf app) words))
            → (bytes_eq verb (first ∷ rest) ≡ false → AgreesOn ((first ∷ rest) ∷ words))
            → AgreesOn ((first ∷ rest) ∷ words)
        by verb app goes agrees other = decide verb (first ∷ rest)
            (λ same. subst (λ word. AgreesOn (word ∷ words)) same
            (by_leaf verb app words goes agrees)) other

-- what `clap` makes of words that may stand agrees with their command
pub agreed : (words : List Text) → AllByRecursion IsWord words → AgreesOn words
unfolding clap_on_literals command_of
agreed [] _ = taken refl refl
agreed (_ ∷ words) (default_option, are) = refused refl refl
agreed (_ ∷ words) (certificate_option, are) = refused refl refl
agreed (_ ∷ words) (name first rest e, are) = first_word words are first rest e
