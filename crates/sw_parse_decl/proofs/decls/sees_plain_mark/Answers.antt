use Rattle.std.proofs.Common.{◌≡◌, sym, ◌∙◌, ap, refl, codes, not, ◌&&◌, [], ◌∷◌}
use Rattle.std.specs.Prelude.{Option}
use Rattle.sw_token.specs.Spelling.{Spelled}
use Rattle.sw_grammar_forms.specs.Relations.{head}
use Rattle.sw_grammar_forms.specs.Sets.{Set, starts, one_of}
use Rattle.sw_grammar_forms.proofs.KindSets.{starts-without}
use Rattle.sw_grammar.specs.Tokens.{at_word, plain_at_word}
use Rattle.sw_parse_decl.proofs.decls.sees_plain_mark.Goals as goal

abbrev others : Set
others = one_of (codes "@main" ∷ codes "@globalActor" ∷ [])

plain : (token : Option Spelled)
    → starts plain_at_word token ≡ (starts at_word token && not (starts others token))
plain token = starts-without plain_at_word at_word others token refl refl refl

pub returns-then-sees_attribute : goal.returns-then-sees_attribute
returns-then-sees_attribute c =
    ap not c.sees_one_of.ensures ∙ sym (plain (head c.args.tokens.now)
    ∙ ap (λ b. b && not (starts others (head c.args.tokens.now)))
    (sym c.sees_attribute.ensures ∙ c.if-sees_attribute.true))

pub returns-else-sees_attribute : goal.returns-else-sees_attribute
returns-else-sees_attribute c =
    c.if-sees_attribute.false ∙ sym (plain (head c.args.tokens.now)
    ∙ ap (λ b. b && not (starts others (head c.args.tokens.now)))
    (sym c.sees_attribute.ensures ∙ c.if-sees_attribute.false))
