-- A grammar: a body for each nest. What its forms spell and how they are read.
use Rattle.std.specs.Prelude.{ℕ, zero, suc}
use Rattle.sw_grammar_forms.specs.Form.{Shape, Form}
use Rattle.sw_grammar_forms.specs.Relations.{Relation, spelled}
use Rattle.sw_grammar_forms.specs.Reader.{Reader, refused, reading}

module _ {N : Type 0} (El : N → Type 0) (shape_of : N → Shape)
    (body : (n : N) → Form El shape_of (shape_of n) (El n)) where
  -- what stands in a nest, where at most `depth` nests are open at a token, this one included
  abbrev pub inside : ℕ → (n : N) → Relation (El n)
  inside zero n = λ x tokens. ⊥
  inside (suc depth) n = spelled El shape_of (inside depth) (body n)

  -- what a form spells with at most `depth` nests open at a token
  abbrev pub spells : ℕ → {s : Shape} {A : Type 0} → Form El shape_of s A → Relation A
  spells depth form = spelled El shape_of (inside depth) form

  -- what a form spells
  abbrev pub Wide : {s : Shape} {A : Type 0} → Form El shape_of s A → Relation A
  Wide form a tokens = (depth : ℕ) × spells depth form a tokens

  abbrev pub read_inside : ℕ → (n : N) → Reader (El n)
  read_inside zero n = refused
  read_inside (suc depth) n = reading El shape_of depth (read_inside depth) (body n)

  -- the reader of a form, where at most `depth` nests may be opened
  abbrev pub reads : ℕ → {s : Shape} {A : Type 0} → Form El shape_of s A → Reader A
  reads depth form = reading El shape_of depth (read_inside depth) form
