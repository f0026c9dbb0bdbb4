-- What an arm does is what a block does, where one statement or `async let` is there. The arms, by
-- what the code keeps of it.
use Rattle.std.proofs.Common.{◌≡◌, ℕ, Bool, true, false, not, ◌||◌, List, []}
use Rattle.std.proofs.Common.{◌∷◌, ◌++◌, if◌then◌else◌, length, codes, refl, sym, ap, ◌∙◌}
use Rattle.std.specs.Prelude.{Option, Some, None, Ok, Err}
use Rattle.sw_token.specs.Spelling.{Spelled}
use Rattle.sw_grammar_forms.specs.Form.Form.{more_items, some_items}
use Rattle.sw_grammar_forms.specs.Quotes.{quote}
use Rattle.sw_grammar_forms.specs.Sets.{quoted, starts, word}
use Rattle.sw_grammar_forms.specs.Reader.{Answer, Reader, and_then, then_read, pure, choose, check}
use Rattle.sw_grammar_forms.specs.Reader.{checked, next}
use Rattle.sw_grammar_forms.specs.Reader.Fault.{unexpected}
use Rattle.sw_grammar_forms.specs.Relations.{head, may_start}
use Rattle.sw_grammar_forms.proofs.FormLaws.{items_end, items_next}
use Rattle.sw_grammar_forms.proofs.ReaderLaws.{bind_step}
use Rattle.sw_tree.specs.declared.stmt.Block.{Block}
use Rattle.sw_tree.specs.declared.stmt.CaseArm.{CaseArm}
use Rattle.sw_grammar.specs.Around.{Around}
use Rattle.sw_grammar.specs.Grammar.{body, good}
use Rattle.sw_grammar.specs.Nests.{El, shape_of}
use Rattle.sw_grammar.specs.Reading.{read}
use Rattle.sw_grammar.specs.Stmts.{Body, arm_body, async_part, begun, block_of}
use Rattle.sw_grammar.specs.Stmts.{case_arm, case_part, default_part, patterns_if, stmt}
use Rattle.sw_grammar.specs.Tokens.{name_in, stmt_first}
use Rattle.sw_parse_expr.specs.Blocks.{Items, block_items, items_of}
use Rattle.sw_parse_expr.proofs.PartLoops.{Rest, begins_with_part, no_part}
use Rattle.sw_parse_expr.proofs.StmtTurns.{State}
use Rattle.sw_parse_stmt.specs.Parts.{default_if, one_case, one_default}

module _ (around : Around) (depth : ℕ) where
  abbrev some : Reader State
  some = read around depth (some_items (stmt around))

  -- the statements or the `async let` at the beginning
  abbrev first : Reader Body
  first =
      choose stmt_first (then_read some (λ all. pure (begun around all)))
      (read around depth (async_part around))

  abbrev rest : Answer Body → Answer Body
  rest answer =
      and_then {X = Body × List Spelled} {Y = Body × List Spelled} answer
      (λ one. Rest around depth one.0 one.1)

  arm_is : (ts : List Spelled) → read around depth (arm_body around) ts ≡ rest (first ts)
  unfolding arm_body
  arm_is ts = refl

  chosen : (ts : List Spelled) (b : Bool) → starts stmt_first (head ts) ≡ b
      → first ts ≡ (if b then then_read some (λ all. pure (begun around all)) ts
      else read around depth (async_part around) ts)
  chosen ts b is =
      ap (λ (c : Bool). if c then then_read some (λ all. pure (begun around all)) ts
      else read around depth (async_part around) ts) is

  -- the statements, and what is after them
  abbrev followed : Answer State → Answer Body
  followed answer =
      and_then {X = State × List Spelled} {Y = Body × List Spelled} answer
      (λ all. Rest around depth (begun around all.0) all.1)

  regrouped : (answer : Answer State)
      → rest (and_then {X = State × List Spelled} {Y = Body × List Spelled} answer
      (λ all. Ok (begun around all.0, all.1))) ≡ followed answer
  regrouped (Ok all) = refl
  regrouped (Err fault) = refl

  begins_with_stmt : (ts : List Spelled) → starts stmt_first (head ts) ≡ true
      → read around depth (arm_body around) ts ≡ block_items around depth ts
  begins_with_stmt ts is =
      arm_is ts ∙ ap rest (chosen ts true is) ∙ regrouped (some ts)
      ∙ ap followed (sym (items_next El shape_of (body around.id_of) good depth (stmt around) refl
      ([], true) ts is))

  begins_with_task : (ts : List Spelled) → starts stmt_first (head ts) ≡ false
      → starts (quoted (codes "async")) (head ts) ≡ true
      → read around depth (arm_body around) ts ≡ block_items around depth ts
  begins_with_task ts none is =
      arm_is ts ∙ ap rest (chosen ts false none)
      ∙ (sym (begins_with_part around depth ts is)
      ∙ sym (bind_step (read around depth (more_items ([], true) (stmt around)) ts) _
      (([], true), ts) (Rest around depth (begun around ([], true)) ts)
      (items_end El shape_of (body around.id_of) good depth (stmt around) refl ([], true) ts none)
      refl))

  pub arm_read : (ts : List Spelled)
      → (starts stmt_first (head ts) || starts (quoted (codes "async")) (head ts)) ≡ true
      → read around depth (arm_body around) ts ≡ block_items around depth ts
  arm_read ts =
      by (starts stmt_first (head ts)) (starts (quoted (codes "async")) (head ts)) refl refl
    where
      by : (b c : Bool) → starts stmt_first (head ts) ≡ b
          → starts (quoted (codes "async")) (head ts) ≡ c → (b || c) ≡ true
          → read around depth (arm_body around) ts ≡ block_items around depth ts
      by true c b-is c-is is = begins_with_stmt ts b-is
      by false true b-is c-is is = begins_with_task ts b-is c-is
      by false false b-is c-is is = absurd (cc)

  pub arm_refused : (ts : List Spelled)
      → (starts stmt_first (head ts) || starts (quoted (codes "async")) (head ts)) ≡ false
      → read around depth (arm_body around) ts ≡ Err (unexpected (length ts))
  arm_refused ts =
      by (starts stmt_first (head ts)) (starts (quoted (codes "async")) (head ts)) refl refl
    where
      by : (b c : Bool) → starts stmt_first (head ts) ≡ b
          → starts (quoted (codes "async")) (head ts) ≡ c → (b || c) ≡ false
          → read around depth (arm_body around) ts ≡ Err (unexpected (length ts))
      by true c b-is c-is is = absurd (cc)
      by false true b-is c-is is = absurd (cc)
      by false false b-is c-is is =
          arm_is ts ∙ ap rest (chosen ts false b-is ∙ no_part around depth ts c-is)

  -- The arms, by what the code keeps of what they do.

  kept : {B : Type 0} (f : Items → B) (answer : Answer Body)
      → and_then {X = Body × List Spelled} {Y = B × List Spelled} answer
      (λ read. Ok (f (items_of read.0), read.1))
      ≡ and_then {X = Items × List Spelled} {Y = B × List Spelled}
      (and_then {X = Body × List Spelled} {Y = Items × List Spelled} answer
      (λ read. Ok (items_of read.0, read.1)))
      (λ read. Ok (f read.0, read.1))
  kept f (Ok read) = refl
  kept f (Err fault) = refl

  pub case_is : (cases : List CaseArm) (ended : Bool)
      → read around depth (case_part around (cases, ended)) ≡ one_case around depth cases
  unfolding case_part
  case_is cases ended = λ j.
      then_read (next (quote (codes "case"))) (λ _.
      then_read (next (quote (codes "."))) (λ _.
      then_read (next (name_in around word (codes "print"))) (λ name.
      then_read (read around depth (patterns_if around)) (λ pats.
      then_read (next (quote (codes ":"))) (λ _ us.
      kept (λ items. (cases ++ case_arm name pats items.0 ∷ [], items.1))
      (read around depth (arm_body around) us) j)))))

  default_is : read around depth (default_part around) ≡ one_default around depth
  unfolding default_part
  default_is = λ j.
      then_read (next (quote (codes "default"))) (λ _.
      then_read (next (quote (codes ":"))) (λ _ us.
      kept (λ items. Some (block_of items.0)) (read around depth (arm_body around) us) j))

  pub default_read : (ts us : List Spelled) (ended : Bool) (value : Unit {0})
      → starts (quoted (codes "default")) (head ts) ≡ true
      → check (may_start (not ended)) ts ≡ Ok (value, us)
      → one_default around depth us ≡ read around depth (default_if around ended) ts
  default_read ts us ended value goes e =
      sym (ap (λ (b : Bool). if b
      then checked (may_start (not ended)) (read around depth (default_part around)) ts
      else pure {A = Option Block} None ts) goes
      ∙ (bind_step (check (may_start (not ended)) ts) _ (value, us)
      (read around depth (default_part around) us) e refl
      ∙ (λ j. default_is j us)))
