-- What the program of a text has, beside what its tokens say: it can be lowered where it keeps the
-- rules on declarations and on types.
use Rattle.std.proofs.Common.{◌<◌, ◌^◌, ℕ, List, None, arith}
use Rattle.std.proofs.lemmas.List.{length-map}
use Rattle.sw_token.proofs.TokenLaws.{IsTokens-most}
use Rattle.sw_token.specs.Spelling.{Spelled, spelled, spelling_of}
use Rattle.sw_token.specs.Tokens.{IsTokens}
use Rattle.sw_token.specs.declared.Token.{Token}
use Rattle.sw_tree.specs.CasePlaces.{CasesApart}
use Rattle.sw_tree.specs.declared.decl.Decl.{Decl}
use Rattle.sw_tree_facts.specs.Sizes.{size_of}
use Rattle.sw_grammar.specs.Around.{index_in}
use Rattle.sw_grammar.specs.Program.{Spells}
use Rattle.sw_grammar_facts.proofs.CaseWords.{cases_are_apart}
use Rattle.sw_grammar_facts.proofs.Scopes.Told.{spelled_are_scoped}
use Rattle.sw_grammar_facts.proofs.Sizes.{spelled_are_small}
use Rattle.sw_grammar_facts.proofs.TextForms.{are_written, globals_are_valued}
use Rattle.sw_parse_decl.proofs.ProgramFaults.{keyed_program}
use Rattle.sw_parse_decl.proofs.ProgramTexts.{int_is_first, interned}
use Rattle.sw_parse_decl.specs.Programs.{IsProgramOf, most_nests, texts_of}
use Rattle.sw_decls.specs.Declaring.{IsFirstBreach}
use Rattle.sw_decls.specs.declared.signature.AsyncDefault.{AsyncDefault}
use Rattle.sw_typing_rules.specs.Programs.{IsFirstIll}
use Rattle.sw_typing_rules.specs.Worlds.{IsWorldOf, World}
use Rattle.sw_lower_total_facts.specs.Programs.{IsWelltyped}

-- The tokens spell the declarations, however many nests are open.
spells : (tokens : List Spelled) (decls : List Decl) → IsProgramOf decls tokens
    → Spells (index_in (texts_of tokens)) decls tokens
spells tokens decls given = record {
  spelling = given.spelling;
  form = record {
    written = given.form.written;
    spelled = (most_nests, given.form.spelled);
    whole = given.form.whole;
  };
}

pub program_apart : (tokens : List Spelled) (decls : List Decl) → IsProgramOf decls tokens
    → CasesApart decls
program_apart tokens decls given =
    cases_are_apart (texts_of tokens) decls tokens (interned tokens) (spells tokens decls given)

-- No text has so many tokens that a number of 32 bits isn't enough for what is made of them.
small_program : (text : List ℕ) (tokens : List Token) (decls : List Decl) → IsTokens text tokens
    → IsProgramOf decls (spelling_of text tokens) → size_of decls < 2 ^ 30
small_program text tokens decls are given =
    omega (
      arith,
      IsTokens-most text tokens are,
      length-map tokens (spelled text),
      spelled_are_small (index_in (texts_of (spelling_of text tokens))) decls
          (spelling_of text tokens) (spells (spelling_of text tokens) decls given),
    )

pub program_welltyped : (text : List ℕ) (tokens : List Token) (decls : List Decl)
    (rule : AsyncDefault) (world : World) → IsTokens text tokens
    → IsProgramOf decls (spelling_of text tokens) → IsFirstBreach decls None
    → IsWorldOf decls rule world → IsFirstIll world decls None → IsWelltyped decls rule world
program_welltyped text are_tokens decls rule world are given sound declared well =
    let tokens = spelling_of text are_tokens in record {
      keyed = keyed_program tokens decls given;
      scoped = spelled_are_scoped (texts_of tokens) decls tokens (interned tokens)
          (int_is_first tokens) (spells tokens decls given);
      valued = globals_are_valued (index_in (texts_of tokens)) decls tokens
          (spells tokens decls given);
      written = are_written (index_in (texts_of tokens)) decls tokens (spells tokens decls given);
      small = small_program text are_tokens decls are given;
      sound = sound;
      declared = declared;
      well = well;
    }
