-- The declarations of a program, turn by turn as the code's loop reads them.
use Rattle.std.proofs.Common.{
  ◌≡◌,
  ℕ,
  ◌<◌,
  Bool,
  true,
  false,
  not,
  List,
  [],
  ◌∷◌,
  ◌++◌,
  length,
  codes,
}
use Rattle.std.proofs.Common.{refl}
use Rattle.std.specs.Prelude.{Ok}
use Rattle.sw_token.specs.Spelling.{Spelled}
use Rattle.sw_grammar_forms.specs.Sets.{starts}
use Rattle.sw_grammar_forms.specs.Relations.{head, may_start}
use Rattle.sw_grammar_forms.specs.Reader.{check, skipping}
use Rattle.sw_grammar_forms.proofs.ItemLoops as loops
use Rattle.sw_grammar_forms.proofs.ItemLoops.{Refuses}
use Rattle.sw_tree.specs.declared.decl.Decl.{Decl}
use Rattle.sw_grammar.specs.Around.{Around}
use Rattle.sw_grammar.specs.Nests.{El, shape_of}
use Rattle.sw_grammar.specs.Grammar.{body, good}
use Rattle.sw_grammar.specs.Decls.{decl, decl_first}
use Rattle.sw_grammar.specs.Reading.{read}
use Rattle.sw_parse_decl.specs.Parts.{decls_of, rest_of}

module _ (around : Around) (depth : ℕ) where
  abbrev goes : List Spelled → Type 0
  goes ts = starts decl_first (head ts) ≡ true

  abbrev Same : List Spelled → List Spelled → List Decl → Bool → Type 0
  Same start ts xs ended =
      rest_of around depth (xs, ended) ts ≡ rest_of around depth ([], true) start

  pub stops_at_start : (start ts : List Spelled) (xs : List Decl) (ended : Bool) → goes ts
      → Same start ts xs ended
      → Refuses (check (may_start (not ended)) ts) (decls_of around depth start)
  stops_at_start start ts xs ended some same =
      loops.stops_at_start El shape_of (body around.id_of) good depth (decl around) refl start ts xs ended
      some same

  pub stops_at_decl : (start ts us : List Spelled) (xs : List Decl) (ended : Bool)
      (value : Unit {0}) → goes ts → Same start ts xs ended
      → check (may_start (not ended)) ts ≡ Ok (value, us)
      → Refuses (read around depth (decl around) us) (decls_of around depth start)
  stops_at_decl start ts us xs ended value some same first =
      loops.stops_at_item El shape_of (body around.id_of) good depth (decl around) refl start ts us xs
      ended
      value some same first

  pub one_turn : (start ts us vs ws : List Spelled) (xs : List Decl) (ended marked : Bool) (x :
      Decl)
      (value : Unit {0}) → goes ts → Same start ts xs ended
      → check (may_start (not ended)) ts ≡ Ok (value, us)
      → read around depth (decl around) us ≡ Ok (x, vs) → skipping (codes ";") vs ≡ Ok (marked, ws)
      → Same start ws (xs ++ x ∷ []) marked
  one_turn start ts us vs ws xs ended marked x value some same a b c =
      loops.one_turn El shape_of (body around.id_of) good depth (decl around) refl start ts us vs ws xs
      ended
      marked x value some same a b c

  pub shorter : (ts us vs ws : List Spelled) (xs : List Decl) (ended marked : Bool) (x : Decl)
      (value : Unit {0}) → check (may_start (not ended)) ts ≡ Ok (value, us)
      → read around depth (decl around) us ≡ Ok (x, vs) → skipping (codes ";") vs ≡ Ok (marked, ws)
      → length ws < length ts
  shorter ts us vs ws xs ended marked x value a b c =
      loops.shorter El shape_of (body around.id_of) good depth (decl around) refl ts us vs ws xs ended
      marked
      x value a b c

  pub all_read : (start ts : List Spelled) (xs : List Decl) (ended : Bool)
      → starts decl_first (head ts) ≡ false → Same start ts xs ended
      → decls_of around depth start ≡ Ok (xs, ts)
  all_read start ts xs ended ends same =
      loops.all_read El shape_of (body around.id_of) good depth (decl around) refl start ts xs ended ends
      same
