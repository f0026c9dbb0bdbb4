-- The arms of an `if`, one by one as the code's loop reads them.
use Rattle.std.proofs.Common.{◌≡◌, ℕ, ◌<◌, true, false, List, length, refl}
use Rattle.std.specs.Prelude.{Ok}
use Rattle.sw_token.specs.Spelling.{Spelled}
use Rattle.sw_grammar_forms.specs.Sets.{starts}
use Rattle.sw_grammar_forms.specs.Relations.{head}
use Rattle.sw_grammar_forms.specs.Reader.{Answer, Reader}
use Rattle.sw_grammar.specs.Around.{Around}
use Rattle.sw_grammar.specs.Nests.{El, shape_of}
use Rattle.sw_grammar.specs.Grammar.{body, good}
use Rattle.sw_grammar.specs.Stmts.{Arms, has_next, next_arm}
use Rattle.sw_grammar.specs.Tokens.{expr_first}
use Rattle.sw_grammar.specs.Reading.{read}
use Rattle.sw_parse_stmt.specs.Parts.{more_arms}
use Rattle.sw_parse_expr.proofs.TurnLoops as loops
use Rattle.sw_parse_expr.proofs.TurnLoops.{open_starts, open_ends, closed_ends}

module _ (around : Around) (depth : ℕ) where
  -- the answer of all arms from some on
  abbrev pub Rest : Arms → Reader Arms
  Rest arms = read around depth (more_arms around arms)

  abbrev one : Arms → Reader Arms
  one arms = read around depth (next_arm around arms)

  pub one_turn : (start : Answer Arms) (ts us : List Spelled) (arms next : Arms)
      → has_next arms ≡ true → starts expr_first (head ts) ≡ true → Rest arms ts ≡ start
      → one arms ts ≡ Ok (next, us) → Rest next us ≡ start
  unfolding next_arm
  one_turn start ts us arms next more goes same e =
      loops.one_turn El shape_of (body around.id_of) good depth has_next (next_arm around) refl
      start ts us arms next (open_starts (has_next arms) expr_first (head ts) more goes) same e

  pub shorter : (ts us : List Spelled) (arms next : Arms) → one arms ts ≡ Ok (next, us)
      → length us < length ts
  shorter ts us arms next e =
      loops.shorter El shape_of (body around.id_of) good depth has_next (next_arm around) refl ts us
      arms next e

  pub no_arm : (start : Answer Arms) (ts : List Spelled) (arms : Arms)
      → starts expr_first (head ts) ≡ false → Rest arms ts ≡ start → start ≡ Ok (arms, ts)
  no_arm start ts arms ends same =
      loops.all_read El shape_of (body around.id_of) good depth has_next (next_arm around) refl
      start ts arms (open_ends (has_next arms) expr_first (head ts) ends) same

  pub after_last : (start : Answer Arms) (ts : List Spelled) (arms : Arms)
      → has_next arms ≡ false → Rest arms ts ≡ start → start ≡ Ok (arms, ts)
  after_last start ts arms none same =
      loops.all_read El shape_of (body around.id_of) good depth has_next (next_arm around) refl
      start ts arms (closed_ends (has_next arms) expr_first (head ts) none) same
