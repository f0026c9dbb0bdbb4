-- The members of a type by their kinds, one by one.
use Rattle.std.proofs.Common.{◌≡◌, List, [], ◌∷◌, ◌++◌, refl, sym, ◌∙◌, ap}
use Rattle.std.proofs.lemmas.List.{append-nil, append_assoc}
use Rattle.sw_tree.specs.declared.decl.PropTree.{PropTree}
use Rattle.sw_tree.specs.declared.decl.InitTree.{InitTree}
use Rattle.sw_tree.specs.declared.decl.FuncTree.{FuncTree}
use Rattle.sw_tree.specs.declared.decl.CaseTree.{CaseTree}
use Rattle.sw_grammar.specs.Nests.{Member}
use Rattle.sw_grammar.specs.Nests.Member.{property, initialiser, function, cases}
use Rattle.sw_grammar.specs.Decls.{properties_in, initialisers_in, functions_in, cases_in}
use Rattle.sw_parse_decl.specs.Members.{collected, with_member}
use Rattle.sw_parse_decl.specs.declared.members.Members.{Members}

props_append : (xs ys : List Member)
    → properties_in (xs ++ ys) ≡ properties_in xs ++ properties_in ys
props_append [] ys = refl
props_append (property tree ∷ xs) ys = ap (λ l. tree ∷ l) (props_append xs ys)
props_append (initialiser tree ∷ xs) ys = props_append xs ys
props_append (function tree ∷ xs) ys = props_append xs ys
props_append (cases trees ∷ xs) ys = props_append xs ys

inits_append : (xs ys : List Member)
    → initialisers_in (xs ++ ys) ≡ initialisers_in xs ++ initialisers_in ys
inits_append [] ys = refl
inits_append (property tree ∷ xs) ys = inits_append xs ys
inits_append (initialiser tree ∷ xs) ys = ap (λ l. tree ∷ l) (inits_append xs ys)
inits_append (function tree ∷ xs) ys = inits_append xs ys
inits_append (cases trees ∷ xs) ys = inits_append xs ys

funcs_append : (xs ys : List Member)
    → functions_in (xs ++ ys) ≡ functions_in xs ++ functions_in ys
funcs_append [] ys = refl
funcs_append (property tree ∷ xs) ys = funcs_append xs ys
funcs_append (initialiser tree ∷ xs) ys = funcs_append xs ys
funcs_append (function tree ∷ xs) ys = ap (λ l. tree ∷ l) (funcs_append xs ys)
funcs_append (cases trees ∷ xs) ys = funcs_append xs ys

cases_append : (xs ys : List Member) → cases_in (xs ++ ys) ≡ cases_in xs ++ cases_in ys
cases_append [] ys = refl
cases_append (property tree ∷ xs) ys = cases_append xs ys
cases_append (initialiser tree ∷ xs) ys = cases_append xs ys
cases_append (function tree ∷ xs) ys = cases_append xs ys
cases_append (cases trees ∷ xs) ys =
    ap (λ l. trees ++ l) (cases_append xs ys) ∙ sym (append_assoc trees (cases_in xs) (cases_in ys))

by_parts : (a a' : List PropTree) (b b' : List InitTree) (c c' : List FuncTree)
    (d d' : List CaseTree) → a ≡ a' → b ≡ b' → c ≡ c' → d ≡ d'
    → ◌≡◌ {A = Members} (record { props = a; inits = b; funcs = c; cases = d })
    (record { props = a'; inits = b'; funcs = c'; cases = d' })
by_parts a a' b b' c c' d d' p q r s =
    ap (λ x. record { props = x; inits = b; funcs = c; cases = d }) p
    ∙ (ap (λ x. record { props = a'; inits = x; funcs = c; cases = d }) q
    ∙ (ap (λ x. record { props = a'; inits = b'; funcs = x; cases = d }) r
    ∙ ap (λ x. record { props = a'; inits = b'; funcs = c'; cases = x }) s))

-- one more member comes last among those of its kind
pub with_collected : (xs : List Member) (x : Member)
    → with_member (collected xs) x ≡ collected (xs ++ x ∷ [])
with_collected xs x =
    last x ∙ sym (by_parts _ _ _ _ _ _ _ _ (props_append xs (x ∷ [])) (inits_append xs (x ∷ []))
    (funcs_append xs (x ∷ [])) (cases_append xs (x ∷ [])))
  where
    last : (x : Member) → ◌≡◌ {A = Members} (with_member (collected xs) x) (record {
      props = properties_in xs ++ properties_in (x ∷ []);
      inits = initialisers_in xs ++ initialisers_in (x ∷ []);
      funcs = functions_in xs ++ functions_in (x ∷ []);
      cases = cases_in xs ++ cases_in (x ∷ []);
    })
    last (property tree) = by_parts _ _ _ _ _ _ _ _ refl (sym (append-nil (initialisers_in xs)))
        (sym (append-nil (functions_in xs))) (sym (append-nil (cases_in xs)))
    last (initialiser tree) = by_parts _ _ _ _ _ _ _ _ (sym (append-nil (properties_in xs))) refl
        (sym (append-nil (functions_in xs))) (sym (append-nil (cases_in xs)))
    last (function tree) = by_parts _ _ _ _ _ _ _ _ (sym (append-nil (properties_in xs)))
        (sym (append-nil (initialisers_in xs))) refl (sym (append-nil (cases_in xs)))
    last (cases trees) = by_parts _ _ _ _ _ _ _ _ (sym (append-nil (properties_in xs)))
        (sym (append-nil (initialisers_in xs))) (sym (append-nil (functions_in xs)))
        (ap (λ l. cases_in xs ++ l) (sym (append-nil trees)))
