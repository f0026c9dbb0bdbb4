-- What a function answers that goes through phases.
use Rattle.std.specs.Prelude.{◌<◌, ◌^◌, ◌≡◌, ℕ, List, [], ◌∷◌, None, Result, Ok, Err, length}
use Rattle.sw_tree.specs.declared.decl.Decl.{Decl}
use Rattle.sw_decls.specs.Declaring.{IsDeclared, IsFirstBreach}
use Rattle.sw_decls.specs.declared.signature.AsyncDefault.{AsyncDefault}
use Rattle.sw_typing_rules.specs.Programs.{IsFirstIll}
use Rattle.sw_typing_rules.specs.Worlds.{world_of}
use Rattle.sw_typing_table.specs.Typed.{IsTyped}
use Rattle.sw_isolation_table.specs.Known.{answers_of}
use Rattle.sw_isolation_table.specs.Isolated.{IsIsolated}
use Rattle.sw_lower_known.specs.Knowledge.{isolation_of}
use Rattle.sw_lower_rules.specs.Bodies.{tables_of}
use Rattle.sw_lower.specs.Lowered.{IsLowering}
use Rattle.sw_verdict.specs.declared.judging.Analysed.{Analysed}
use Rattle.sw_parse_decl.specs.Programs.{IsProgramOf, texts_of}
use Rattle.sw_token.specs.Spelling.{spelling_of}
use Rattle.sw_token.specs.Tokens.{IsTokens}
use Rattle.sw_verdict.specs.Phases.{Phase}
use Rattle.sw_verdict.specs.Verdict.{Breaches}
use Rattle.sw_verdict.specs.declared.judging.Meaning.{Meaning}
use Rattle.sw_verdict.specs.declared.judging.Spelled.{Spelled}
use Rattle.sw_verdict.specs.declared.phases.Refusal.{Refusal}
use Rattle.sw_verdict.specs.declared.phases.Refusal.TheVariants.{Breached, Memory}

-- the phases find this breach, unless memory ran out
abbrev pub DecidedBy : AsyncDefault → List Phase → List ℕ → Refusal → Type 0
DecidedBy rule phases text (Breached breach) = Breaches rule phases text (breach ∷ [])
DecidedBy rule phases text Memory = Unit {0}

-- `Decided rule phases text result`: none of the phases finds a breach in the text, or the refusal
-- has the one that the first finds that finds any.
abbrev pub Decided : {A : Type 0} → AsyncDefault → List Phase → List ℕ → Result A Refusal → Type 0
Decided rule phases text (Ok value) = Breaches rule phases text []
Decided rule phases text (Err refusal) = DecidedBy rule phases text refusal

-- what was read is the text with its tokens and the program that they spell
pub record IsSpelledText (text : List ℕ) (read : Spelled) : Type 0 where
  pub source : read.source ≡ text
  pub are_tokens : IsTokens text read.tokens.items
  pub is_program : IsProgramOf read.program.decls (spelling_of text read.tokens.items)
  pub texts : read.program.texts ≡ texts_of (spelling_of text read.tokens.items)
  pub few : length read.program.decls < 2 ^ 31

-- What was found of a program under a default: it keeps the rules on declarations and declares
-- these, its nodes have types, which are these, and it has this isolation and these functions.
pub record IsAnalysed (rule : AsyncDefault) (decls : List Decl) (found : Analysed) : Type 0 where
  pub sound : IsFirstBreach decls None
  pub declared : IsDeclared decls rule found.declared
  pub well : IsFirstIll (world_of found.declared) decls None
  pub typed : IsTyped (world_of found.declared) decls found.typed
  pub isolated : IsIsolated (world_of found.declared) (answers_of found.typed) decls found.isolated
  pub functions : IsLowering (tables_of (world_of found.declared) (answers_of found.typed)
      (isolation_of found.isolated) decls) decls found.lowering

-- this is a text's program, and what is found of it under a default
pub record IsMeaning (rule : AsyncDefault) (text : List ℕ) (meaning : Meaning) : Type 0 where
  pub spelled : IsSpelledText text meaning.spelled
  pub analysed : IsAnalysed rule meaning.spelled.program.decls meaning.found
