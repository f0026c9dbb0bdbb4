-- The texts of a program's names have those that its tokens give.
use Rattle.std.proofs.Common.{◌≡◌, ℕ, ◌<◌, List, length, slice_get, codes, refl, ◌∙◌, ap, arith}
use Rattle.std.proofs.Common.{if◌then◌else◌}
use Rattle.std.proofs.lemmas.Bool.{lt-ltb}
use Rattle.std.proofs.lemmas.List.Elements.{All-from_recursion, All-weaker}
use Rattle.std.specs.Prelude.{All, Some}
use Rattle.sw_token.specs.Spelling.{Spelled}
use Rattle.sw_tree.proofs.NamesLemmas.{ids_of_interned, ids_stay, text_at_id}
use Rattle.sw_tree.specs.Names.{id_in, predeclared, value_id, with_texts}
use Rattle.sw_grammar.specs.Around.{index_in}
use Rattle.sw_grammar_facts.specs.Interned.{texts_in, AreInterned}
use Rattle.sw_parse_decl.specs.Programs.{texts_of}
use Rattle.sw_parse_decl.proofs.InternSteps.{predeclared_few}

pub interned : (tokens : List Spelled) → AreInterned (texts_of tokens) tokens
unfolding texts_of
interned tokens =
    All-from_recursion (λ text. id_in (with_texts predeclared (texts_in tokens)) text
    < length (with_texts predeclared (texts_in tokens))) (texts_in tokens)
    (ids_of_interned predeclared (texts_in tokens))

-- the first of the texts is `Int`
int_first : id_in predeclared (codes "Int") ≡ 0
unfolding predeclared id_in
int_first = refl

pub int_is_first : (tokens : List Spelled) → id_in (texts_of tokens) (codes "Int") ≡ 0
unfolding texts_of
int_is_first tokens =
    (ids_stay predeclared (texts_in tokens) (codes "Int") (omega (arith, int_first, predeclared_few))).0
    ∙ int_first

-- `value` is one of them
value_there : id_in predeclared (codes "value") ≡ value_id
unfolding predeclared id_in
value_there = refl

pub value_known : (tokens : List Spelled) → value_id < length (texts_of tokens)
unfolding texts_of
value_known tokens =
    let within : id_in predeclared (codes "value") < length predeclared
    = omega (arith, value_there, predeclared_few) in
    omega (arith, value_there, (ids_stay predeclared (texts_in tokens) (codes "value") within).1)

-- a text that is there stands at its id
stands_there : (texts : List (List ℕ)) (text : List ℕ) → id_in texts text < length texts
    → slice_get texts (index_in texts text) ≡ Some text
stands_there texts text within =
    ap (λ b. slice_get texts (if b then id_in texts text else 0))
    (lt-ltb (id_in texts text) (length texts) within)
    ∙ text_at_id texts text within

pub given_stand : (tokens : List Spelled)
    → All (λ text. slice_get (texts_of tokens) (index_in (texts_of tokens) text) ≡ Some text)
    (texts_in tokens)
given_stand tokens =
    All-weaker _ _ (stands_there (texts_of tokens)) (texts_in tokens) (interned tokens)
