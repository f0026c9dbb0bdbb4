use Rattle.std.proofs.Common.{◌∙◌, refl, codes, [], ◌∷◌, ◌++◌}
use Rattle.sw_grammar_forms.specs.Relations.{head}
use Rattle.sw_grammar_forms.specs.Sets.{Set, one_of}
use Rattle.sw_grammar.specs.Tokens.{at_word}
use Rattle.sw_grammar.specs.Decls.{decl_first}
use Rattle.sw_parse_decl.proofs.DeclSets.{of_first, of_second, starts-same}
use Rattle.sw_parse_decl.proofs.decls.sees_decl.Goals as goal

abbrev words : Set
words =
    one_of (codes "nonisolated" ∷ codes "@concurrent" ∷ codes "struct" ∷ codes "enum"
    ∷ codes "actor" ∷ codes "final" ∷ codes "func" ∷ codes "let" ∷ codes "var" ∷ [])

pub returns-then-sees_attribute : goal.returns-then-sees_attribute
returns-then-sees_attribute c =
    of_first at_word words (head c.args.tokens.now) _ c.sees_attribute.ensures
    c.if-sees_attribute.true
    ∙ starts-same (at_word ++ words) decl_first (head c.args.tokens.now) refl refl

pub returns-else-sees_attribute : goal.returns-else-sees_attribute
returns-else-sees_attribute c =
    of_second at_word words (head c.args.tokens.now) _ _ c.sees_attribute.ensures
    c.if-sees_attribute.false c.sees_one_of.ensures
    ∙ starts-same (at_word ++ words) decl_first (head c.args.tokens.now) refl refl
