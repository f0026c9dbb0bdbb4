-- A text has one program, which declares one world.
use Rattle.std.proofs.Common.{◌≡◌, ℕ, List, subst}
use Rattle.sw_token.proofs.TokenLaws.{one_list as one_tokens}
use Rattle.sw_token.specs.Spelling.{spelling_of}
use Rattle.sw_tree.specs.declared.decl.Decl.{Decl}
use Rattle.sw_parse_decl.specs.Programs.{IsProgramOf}
use Rattle.sw_parse_decl.proofs.ProgramFaults as programs
use Rattle.sw_decls.specs.declared.signature.AsyncDefault.{AsyncDefault}
use Rattle.sw_typing_rules.specs.Worlds.{IsWorldOf, World}
use Rattle.sw_typing_rules.proofs.OneWorld.{one_world}
use Rattle.sw_verdict.specs.Phases.{HasProgram, HasWorld}

-- The declarations of a text are one list.
pub same_decls : (text : List ℕ) {ds es : List Decl} → HasProgram text ds → HasProgram text es
    → ds ≡ es
same_decls text {ds} {es} a b =
    programs.one_program (spelling_of text b.tokens) ds es
    (subst (λ tokens. IsProgramOf ds (spelling_of text tokens))
    (one_tokens text a.tokens b.tokens a.are_tokens b.are_tokens) a.is_program) b.is_program

-- The declarations of a text are one list, and what they declare is one world.
pub same_world : (rule : AsyncDefault) (text : List ℕ) {ds es : List Decl} {v w : World}
    → HasWorld rule text ds v → HasWorld rule text es w → (ds ≡ es) × (v ≡ w)
same_world rule text {ds} {es} {v} {w} a b =
    let same = same_decls text a.program b.program in (
      same,
      one_world es rule v w
          (programs.keyed_program (spelling_of text b.program.tokens) es b.program.is_program)
          (subst (λ decls. IsWorldOf decls rule v) same a.is_world) b.is_world,
    )

-- what holds of one world and its declarations holds of the same
pub of_same : (P : World → List Decl → Type 0) {v w : World} {ds es : List Decl}
    → (ds ≡ es) × (v ≡ w) → P v ds → P w es
of_same P {v} {w} {ds} {es} (decls, worlds) holds =
    subst (λ world. P world es) worlds (subst (P v) decls holds)
