-- The reader of a nest, as the code opens it.
use Rattle.std.proofs.Common.{◌≡◌, ℕ, zero, suc, ◌-◌, Bool, true, false, cond, List, length, refl}
use Rattle.std.proofs.Common.{◌∙◌, ap, arith}
use Rattle.std.specs.Prelude.{Ok, Err}
use Rattle.sw_token.specs.Spelling.{Spelled}
use Rattle.sw_grammar_forms.specs.Sets.{starts}
use Rattle.sw_grammar_forms.specs.Form.{Shape, Form, Terminal}
use Rattle.sw_grammar_forms.specs.Form.Form.{nest}
use Rattle.sw_grammar_forms.specs.Relations.{head}
use Rattle.sw_grammar_forms.specs.Reader.{Reader, refused, pure, and_then, then_read, opening}
use Rattle.sw_grammar_forms.specs.Reader.Fault.{too_deep}
use Rattle.sw_grammar_forms.specs.Spells.{reads}
use Rattle.sw_grammar_forms.proofs.ReaderLaws.{bind_step, bind_stop}
use Rattle.sw_grammar_forms.proofs.ItemLoops.{Refuses}

module _ {N : Type 0} (El : N → Type 0) (shape_of : N → Shape)
    (body : (n : N) → Form El shape_of (shape_of n) (El n)) where
  -- the token that opens the nest, and then what stands in it, one nest deeper
  abbrev pub Opened : ℕ → {A : Type 0} → Terminal A → (n : N) → Reader (A × El n)
  Opened depth t n = then_read (opening depth t)
      (λ a. then_read (reads El shape_of body (depth - 1) (body n)) (λ x. pure (a, x)))

  pub nest_reads : (depth : ℕ) {A : Type 0} (t : Terminal A) (n : N) (ts : List Spelled)
      → reads El shape_of body depth (nest t n) ts ≡ Opened depth t n ts
  nest_reads zero {A} t n ts = by_test (starts t.set (head ts))
    where
      by_test : (b : Bool)
          → and_then (cond b (Err (too_deep (length ts))) (refused {A = A} ts))
          (λ x. then_read {B = A × El n} (refused {A = El n}) (λ y. pure (x.0, y)) x.1)
          ≡ and_then (cond b (Err (too_deep (length ts))) (refused {A = A} ts))
          (λ x.
          then_read {B = A × El n} (reads El shape_of body (0 - 1) (body n)) (λ y. pure (x.0, y))
          x.1)
      by_test true = refl
      by_test false = refl
  nest_reads (suc depth) t n ts =
      let same : depth ≡ suc depth - 1 = omega arith in
      ap (λ d. then_read (opening (suc depth) t)
      (λ a. then_read (reads El shape_of body d (body n)) (λ x. pure (a, x))) ts) same

  -- what the code's steps give
  pub nest_read : (depth : ℕ) {A : Type 0} (t : Terminal A) (n : N) (ts us vs : List Spelled)
      (a : A) (x : El n) → opening depth t ts ≡ Ok (a, us)
      → reads El shape_of body (depth - 1) (body n) us ≡ Ok (x, vs)
      → reads El shape_of body depth (nest t n) ts ≡ Ok ((a, x), vs)
  nest_read depth t n ts us vs a x opened inner =
      nest_reads depth t n ts ∙ bind_step (opening depth t ts) _ (a, us) _ opened
      (bind_step (reads El shape_of body (depth - 1) (body n) us) _ (x, vs) _ inner refl)

  pub nest_stops : (depth : ℕ) {A : Type 0} (t : Terminal A) (n : N) (ts us : List Spelled) (a : A)
      → opening depth t ts ≡ Ok (a, us)
      → Refuses (reads El shape_of body (depth - 1) (body n) us)
      (reads El shape_of body depth (nest t n) ts)
  nest_stops depth t n ts us a opened fault e =
      nest_reads depth t n ts ∙ bind_step (opening depth t ts) _ (a, us) _ opened
      (bind_stop (reads El shape_of body (depth - 1) (body n) us) _ fault e)
