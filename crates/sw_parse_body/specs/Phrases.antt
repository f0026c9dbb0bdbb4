-- Phrases: blocks, expressions and types. Which one a list of tokens begins with, from an index on,
-- and the one fault of tokens that begin with none.
use Rattle.std.specs.Prelude.{◌≡◌, ◌⊎◌, ℕ, ◌+◌, ◌-◌, ◌≤◌, true, List, drop, take, Option}
use Rattle.sw_token.specs.Spelling.{Spelled}
use Rattle.sw_grammar_forms.specs.Form.{Shape}
use Rattle.sw_grammar_forms.specs.Fronts.{IsFrontOf, IsFrontRefused, front}
use Rattle.sw_grammar_forms.specs.Opens.{opens}
use Rattle.sw_grammar_forms.specs.Reader.{Reader}
use Rattle.sw_grammar_forms.specs.Relations.{Relation}
use Rattle.sw_grammar_forms.specs.Spells.{spells, Wide}
use Rattle.sw_grammar_forms.specs.Whole.{IsTooDeepIn}
use Rattle.sw_grammar_forms.specs.declared.stop.Stop.{Stop}
use Rattle.sw_grammar_forms.specs.declared.stop.Stop.TheVariants as stops
use Rattle.sw_grammar_forms.specs.Form.{solid}
use Rattle.sw_grammar_forms.specs.Sets.{quoted}
use Rattle.std.specs.Prelude.{codes, []}
use Rattle.sw_tree.specs.declared.expr.Expr.{Expr}
use Rattle.sw_tree.specs.declared.stmt.Block.{Block}
use Rattle.sw_tree.specs.declared.type_tree.TypeTree.{TypeTree}
use Rattle.sw_tree.specs.Names.{with_texts}
use Rattle.sw_grammar.specs.Around.{index_in, outermost, returning}
use Rattle.sw_grammar.specs.Nests.{El, shape_of, Form}
use Rattle.sw_grammar.specs.Grammar.{body}
use Rattle.sw_grammar.specs.Reading.{read}
use Rattle.sw_grammar.specs.Exprs as exprs
use Rattle.sw_grammar.specs.Stmts as stmts
use Rattle.sw_grammar.specs.Types as types
use Rattle.sw_grammar.specs.Tokens.{expr_first, expr_ext, type_first, type_ext}
use Rattle.sw_grammar_facts.specs.Interned.{texts_in}
use Rattle.sw_parse_decl.specs.Programs.{most_nests}
use Rattle.sw_parse_decl.specs.declared.fault.ParseFault.{ParseFault}
use Rattle.sw_parse_decl.specs.declared.fault.ParseFault.TheVariants as faults

pub data Phrase : Type 0 where
  -- a block, with the word `T` where each `return` in it is to give a `T?`
  a_block : Option (List ℕ) → Phrase
  -- an expression, in which closures may stand
  an_expr : Phrase
  a_type : Phrase

-- the trees of a phrase
abbrev pub TreeOf : Phrase → Type 0
TreeOf (a_block wanted) = Block
TreeOf an_expr = Expr
TreeOf a_type = TypeTree

abbrev pub shape : Phrase → Shape
shape (a_block wanted) = solid (quoted (codes "{")) [] 1
shape an_expr = solid expr_first expr_ext 0
shape a_type = solid type_first type_ext 0

-- the form of a phrase, where `id_of` gives the index of a name's text
abbrev pub form : (phrase : Phrase) → (List ℕ → ℕ) → Form (shape phrase) (TreeOf phrase)
form (a_block wanted) id_of = stmts.block (returning (outermost id_of) wanted)
form an_expr id_of = exprs.expr (outermost id_of) true
form a_type id_of = types.type (outermost id_of)

-- the trees that tokens spell, where `depth` nests are open before them
abbrev pub SpellsPhrase : (phrase : Phrase) → (List ℕ → ℕ) → ℕ → Relation (TreeOf phrase)
SpellsPhrase phrase id_of depth =
    spells El shape_of (body id_of) (most_nests - depth) (form phrase id_of)

-- the same, however many nests are open
abbrev pub SpellsAtAll : (phrase : Phrase) → (List ℕ → ℕ) → Relation (TreeOf phrase)
SpellsAtAll phrase id_of = Wide El shape_of (body id_of) (form phrase id_of)

-- The last of the tokens opens a nest too many, where `depth` nests are open before the first.
abbrev pub OpensTooMany : Phrase → (List ℕ → ℕ) → ℕ → List Spelled → Type 0
OpensTooMany phrase id_of depth tokens =
    opens El shape_of (body id_of) (most_nests - depth) (form phrase id_of) tokens

-- The tokens from the index `from` up to, and without, the index `read.1` spell the tree `read.0`,
-- and with the token after them no such spelling goes on.
pub record IsFront (phrase : Phrase) (id_of : List ℕ → ℕ) (depth : ℕ) (tokens : List Spelled)
    (from : ℕ) (read : TreeOf phrase × ℕ) : Type 0 where
  -- how many tokens it has
  pub count : ℕ
  pub to : read.1 ≡ from + count
  pub spelled : IsFrontOf (SpellsPhrase phrase id_of depth) (shape phrase).ext read.0
      (drop from tokens) count

-- The tokens from `from` on have no front, and the first with which no spelling begins is at the
-- index `token`.
pub record IsRefusedAt (phrase : Phrase) (id_of : List ℕ → ℕ) (depth : ℕ) (tokens : List Spelled)
    (from token : ℕ) : Type 0 where
  pub count : ℕ
  pub at : token ≡ from + count
  pub refused : IsFrontRefused (OpensTooMany phrase id_of depth) (SpellsAtAll phrase id_of)
      (shape phrase).ext (drop from tokens) count

-- The first token that opens a nest too many is at the index `token`, and a spelling begins with it
-- and those before it, from `from` on.
pub record IsDeepAt (phrase : Phrase) (id_of : List ℕ → ℕ) (depth : ℕ) (tokens : List Spelled)
    (from token : ℕ) : Type 0 where
  pub count : ℕ
  pub at : token ≡ from + count
  pub deep : IsTooDeepIn (OpensTooMany phrase id_of depth) (SpellsAtAll phrase id_of)
      (drop from tokens) count

-- The one fault of tokens that begin with no such phrase: the first that can't be taken, or the
-- first that opens a nest too many, whichever is earlier; at one token it is the former.
abbrev pub IsFrontFault : Phrase → (List ℕ → ℕ) → ℕ → List Spelled → ℕ → ParseFault → Type 0
IsFrontFault phrase id_of depth tokens from (faults.Unexpected token) =
    IsRefusedAt phrase id_of depth tokens from token
IsFrontFault phrase id_of depth tokens from (faults.TooDeep token) =
    IsDeepAt phrase id_of depth tokens from token
IsFrontFault phrase id_of depth tokens from faults.Memory = ⊥

-- The fault is that of the tokens, whatever indices names have, unless memory ran out.
abbrev pub ExplainsFront : Phrase → ℕ → List Spelled → ℕ → ParseFault → Type 0
ExplainsFront phrase depth tokens from (faults.Unexpected token) =
    (id_of : List ℕ → ℕ) → IsFrontFault phrase id_of depth tokens from (faults.Unexpected token)
ExplainsFront phrase depth tokens from (faults.TooDeep token) =
    (id_of : List ℕ → ℕ) → IsFrontFault phrase id_of depth tokens from (faults.TooDeep token)
ExplainsFront phrase depth tokens from faults.Memory = Unit {0}

-- the texts that the tokens from one index up to another give
abbrev pub texts_between : List Spelled → ℕ → ℕ → List (List ℕ)
texts_between tokens from to = texts_in (take (to - from) (drop from tokens))

-- the texts of names, and those
abbrev pub texts_after : List (List ℕ) → List Spelled → ℕ → ℕ → List (List ℕ)
texts_after texts tokens from to = with_texts texts (texts_between tokens from to)

-- The tokens from `from` on have a front, and the first `count` texts that its tokens give are
-- interned.
pub record IsPartInterned (phrase : Phrase) (depth : ℕ) (tokens : List Spelled) (from : ℕ)
    (before after : List (List ℕ)) : Type 0 where
  pub read : TreeOf phrase × ℕ
  pub front : IsFront phrase (index_in before) depth tokens from read
  pub count : ℕ
  pub texts : after ≡ with_texts before (take count (texts_between tokens from read.1))

-- A fault of the tokens leaves the names as they were. Out of memory, the first of the
-- texts that the front's tokens give may be interned.
abbrev pub KeepsNames : Phrase → ℕ → List Spelled → ℕ → List (List ℕ) → List (List ℕ) → ParseFault
    → Type 0
KeepsNames phrase depth tokens from before after (faults.Unexpected token) = after ≡ before
KeepsNames phrase depth tokens from before after (faults.TooDeep token) = after ≡ before
KeepsNames phrase depth tokens from before after faults.Memory =
    (after ≡ before) ⊎ IsPartInterned phrase depth tokens from before after

-- reads a phrase where no such spelling goes on after it, from left to right
abbrev pub read_phrase : (phrase : Phrase) → (List ℕ → ℕ) → ℕ → Reader (TreeOf phrase)
read_phrase phrase id_of depth =
    front (shape phrase).ext (read (outermost id_of) depth (form phrase id_of))

-- The fault of a reading that stops, among `count` tokens.
abbrev pub fault_in : ℕ → Stop → ParseFault
fault_in count (stops.Unexpected left) = faults.Unexpected (count - left)
fault_in count (stops.TooDeep left) = faults.TooDeep (count - left)
fault_in count stops.Memory = faults.Memory

-- the stop is at one of `count` tokens or at their end
abbrev pub IsStopIn : ℕ → Stop → Type 0
IsStopIn count (stops.Unexpected left) = left ≤ count
IsStopIn count (stops.TooDeep left) = left ≤ count
IsStopIn count stops.Memory = Unit {0}
