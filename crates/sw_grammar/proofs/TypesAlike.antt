-- Which tokens a type has doesn't depend on the indices of names; and lists that commas part.
use Rattle.std.proofs.Common.{◌≡◌, ℕ, Bool, true, false, Option, Some, List, [], ◌∷◌, ◌++◌}
use Rattle.std.proofs.Common.{codes, refl, ap}
use Rattle.sw_token.specs.declared.Fixity.TheVariants as fixities
use Rattle.sw_grammar_forms.specs.Sets.{Set, quoted}
use Rattle.sw_grammar_forms.specs.Form.{Shape}
use Rattle.sw_grammar_forms.specs.Form.Form.{terminal, nest}
use Rattle.sw_grammar_forms.specs.Quotes.{quote}
use Rattle.sw_grammar_forms.specs.Reader.{Reader}
use Rattle.sw_grammar_forms.specs.Terminals.{expect, skip}
use Rattle.sw_grammar_forms.proofs.Alike.{Alike, Any, Same, same_done, same_token, same_token_of}
use Rattle.sw_grammar_forms.proofs.Alike.{same_token_that, same_word_but}
use Rattle.sw_grammar_forms.proofs.Alike.{same_then, same_either, same_unless, same_turns, same_nest}
use Rattle.sw_grammar_forms.proofs.Alike.{same_rule}
use Rattle.sw_tree.specs.declared.expr.Expr.{Expr}
use Rattle.sw_tree.specs.declared.type_tree.TypeTree.{TypeTree}
use Rattle.sw_tree.specs.Place.{is_place}
use Rattle.sw_grammar.specs.Around.{Around, Here, around_in}
use Rattle.sw_grammar.specs.Nests.{Nest, El, shape_of, Form, Link}
use Rattle.sw_grammar.specs.Nests.Nest.{in_types, in_payload, in_result, in_task_type, in_round}
use Rattle.sw_grammar.specs.Nests.Nest.{in_args, in_member, in_empty, in_captures}
use Rattle.sw_grammar.specs.Nests.Nest.{in_closure_params, in_closure, in_task, in_block, in_switch}
use Rattle.sw_grammar.specs.Nests.Nest.{in_if_let, in_patterns, in_params, in_isolation, in_entry}
use Rattle.sw_grammar.specs.Nests.Nest.{in_global_actor, in_struct, in_enum, in_class}
use Rattle.sw_grammar.specs.Tokens.{name_in, at_in, name_of, at_name, value_word}
use Rattle.sw_grammar.specs.Words.{new_name}
use Rattle.sw_grammar.specs.Exprs.{with_members}
use Rattle.sw_grammar.specs.Types.{Typed, TypeWord, named, wanted_of, type_word_of, type_word}
use Rattle.sw_grammar.specs.Types.{is_empty, round_type, marked_type, task_type, named_type}
use Rattle.sw_grammar.specs.Types.{written_type, type}
use Rattle.sw_grammar.specs.Types.{more_of, some_of, list_of, types, task_inner}

-- Of members it is asked that they make a place of a place, and of no other expression.
abbrev pub LinksAlike : List Link → List Link → Type 0
LinksAlike links others =
    (base other : Expr) → is_place base ≡ is_place other
    → is_place (with_members base links) ≡ is_place (with_members other others)

-- What is asked of the values of a nest: what the grammar looks at after it.
abbrev pub NestAlike : (n : Nest) → El n → El n → Type 0
NestAlike in_types a b = is_empty a ≡ is_empty b
NestAlike in_payload a b = Unit {0}
NestAlike in_result a b = Unit {0}
NestAlike in_task_type a b = Unit {0}
NestAlike (in_round here) a b = Unit {0}
NestAlike (in_args here) a b = Unit {0}
NestAlike (in_member here) a b = LinksAlike a b
NestAlike in_empty a b = Unit {0}
NestAlike in_captures a b = Unit {0}
NestAlike (in_closure_params here) a b = Unit {0}
NestAlike (in_closure here) a b = Unit {0}
NestAlike (in_task here) a b = Unit {0}
NestAlike (in_block here) a b = Unit {0}
NestAlike (in_switch here) a b = Unit {0}
NestAlike (in_if_let here) a b = Unit {0}
NestAlike (in_patterns here) a b = Unit {0}
NestAlike in_params a b = Unit {0}
NestAlike in_isolation a b = Unit {0}
NestAlike in_entry a b = Unit {0}
NestAlike in_global_actor a b = Unit {0}
NestAlike in_struct a b = Unit {0}
NestAlike in_enum a b = Unit {0}
NestAlike in_class a b = Unit {0}

-- the nests of bodies, and of no declaration
abbrev pub OfBody : Nest → Type 0
OfBody in_types = Unit {0}
OfBody in_payload = ⊥
OfBody in_result = Unit {0}
OfBody in_task_type = Unit {0}
OfBody (in_round here) = Unit {0}
OfBody (in_args here) = Unit {0}
OfBody (in_member here) = Unit {0}
OfBody in_empty = Unit {0}
OfBody in_captures = Unit {0}
OfBody (in_closure_params here) = Unit {0}
OfBody (in_closure here) = Unit {0}
OfBody (in_task here) = Unit {0}
OfBody (in_block here) = Unit {0}
OfBody (in_switch here) = Unit {0}
OfBody (in_if_let here) = Unit {0}
OfBody (in_patterns here) = Unit {0}
OfBody in_params = ⊥
OfBody in_isolation = ⊥
OfBody in_entry = ⊥
OfBody in_global_actor = ⊥
OfBody in_struct = ⊥
OfBody in_enum = ⊥
OfBody in_class = ⊥

-- two forms of this grammar, where at most `depth` nests may be opened, and `F` and `G` read what
-- stands in them
abbrev pub SameForm : ℕ → ((n : Nest) → Reader (El n)) → ((n : Nest) → Reader (El n)) → {s : Shape}
    {A : Type 0} → (A → A → Type 0) → Form s A → Form s A → Type 0
SameForm depth F G P p q = Same {shape_of = shape_of} depth F G P p q

-- of optionals the same word is wanted
abbrev pub TypesAlike : Typed → Typed → Type 0
TypesAlike a b = a.wanted ≡ b.wanted

-- the same of types that may be left out
abbrev pub ResultsAlike : Option Typed → Option Typed → Type 0
ResultsAlike a b = wanted_of a ≡ wanted_of b

named_alike : (word other : TypeWord) → word.text ≡ other.text → (a b : Bool) → a ≡ b
    → TypesAlike (named word a) (named other b)
named_alike word other same true true is = ap (λ text. Some text) same
named_alike word other same true false is = absurd (cc)
named_alike word other same false true is = absurd (cc)
named_alike word other same false false is = refl

-- `f` and `g` give the indices of names.
module _ (f g : List ℕ → ℕ) (here : Here) (depth : ℕ) (F G : (n : Nest) → Reader (El n)) where
  abbrev one : Around
  one = around_in f here

  abbrev two : Around
  two = around_in g here

  abbrev Alike-form : {s : Shape} {A : Type 0} → (A → A → Type 0) → Form s A → Form s A → Type 0
  Alike-form P p q = SameForm depth F G P p q

  pub same_quote : (text : List ℕ) → Alike-form Any (expect text) (expect text)
  same_quote text = same_token (quote text)

  pub same_name : (set : Set) (text : List ℕ)
      → Alike-form Any (terminal (name_in one set text)) (terminal (name_in two set text))
  same_name set text = same_token_of set text fixities.None (name_of f) (name_of g)

  pub same_new_name : Alike-form Any (new_name one) (new_name two)
  same_new_name = same_word_but here.tasks (name_of f) (name_of g)

  pub same_at : (set : Set) (text : List ℕ)
      → Alike-form Any (terminal (at_in one set text)) (terminal (at_in two set text))
  same_at set text = same_token_of set text fixities.None (at_name f) (at_name g)

  same_type_word : (set : Set) (text : List ℕ) → Alike-form (λ a b. a.text ≡ b.text)
      (terminal (type_word one set text)) (terminal (type_word two set text))
  same_type_word set text =
      same_token_that (λ a b. a.text ≡ b.text) set text fixities.None (type_word_of one)
      (type_word_of two) (λ token. refl)

  -- whether a token is skipped
  pub same_skip : (text : List ℕ) → Alike-form (λ a b. a ≡ b) (skip text) (skip text)
  same_skip text =
      same_either (same_then (same_quote text) (λ _ _ _. same_done refl)) (same_done refl)

  -- Lists.
  module _ {A : Type 0} {s : Shape} (p q : Form s A) (item : Alike-form Any p q) where
    pub same_more_of : (first others : List A)
        → Alike-form Any (more_of one first p) (more_of two others q)
    same_more_of first others =
        same_turns Any (λ _ _ _. refl) tt (λ _ _ _. same_then (same_quote (codes ","))
        (λ _ _ _. same_then item (λ _ _ _. same_done tt)))

    pub same_some_of : (text : List ℕ) → Alike-form Any (some_of one text p) (some_of two text q)
    same_some_of text =
        same_then item (λ a b _. same_then (same_more_of (a ∷ []) (b ∷ []))
        (λ _ _ _. same_then (same_quote text) (λ _ _ _. same_done tt)))

    pub same_list_of : (text : List ℕ) → Alike-form Any (list_of one text p) (list_of two text q)
    same_list_of text =
        same_either (same_then (same_quote text) (λ _ _ _. same_done tt)) (same_some_of text)

  module _ (nests : (n : Nest) → OfBody n → Alike (NestAlike n) (F n) (G n)) where
    pub same_opened : (text : List ℕ) (n : Nest) → OfBody n
        → Alike-form (λ a b. NestAlike n a.1 b.1) (nest (quote text) n) (nest (quote text) n)
    same_opened text n of_body = same_nest (quote text) n (NestAlike n) (nests n of_body)

    same_round_type : Alike-form Any (round_type one) (round_type two)
    unfolding round_type
    same_round_type =
        same_rule (same_then (same_opened (codes "(") in_types tt) (λ _ _ is. same_unless is
        (same_then (same_opened (codes "->") in_result tt) (λ _ _ _. same_done tt))
        (same_done tt)))

    same_marked_type : Alike-form Any (marked_type one) (marked_type two)
    unfolding marked_type
    same_marked_type =
        same_rule (same_then (same_at (quoted (codes "@Sendable")) (codes "@Sendable")) (λ _ _ _.
        same_then (same_opened (codes "(") in_types tt) (λ _ _ _.
        same_then (same_opened (codes "->") in_result tt) (λ _ _ _. same_done tt))))

    same_task_type : Alike-form TypesAlike (task_type one) (task_type two)
    unfolding task_type
    same_task_type =
        same_rule (same_then (same_type_word (quoted (codes "Task")) (codes "Task"))
        (λ word word' same. same_either
        (same_then (same_opened (codes "<") in_task_type tt) (λ _ _ _. same_done refl))
        (same_then (same_skip (codes "?")) (λ a b is.
        same_done (named_alike word word' same a b is)))))

    same_named_type : Alike-form TypesAlike (named_type one) (named_type two)
    unfolding named_type
    same_named_type =
        same_rule (same_then (same_type_word value_word (codes "print")) (λ word word' same.
        same_then (same_skip (codes "?")) (λ a b is.
        same_done (named_alike word word' same a b is))))

    pub same_written_type : Alike-form TypesAlike (written_type one) (written_type two)
    unfolding written_type
    same_written_type =
        same_rule (same_either (same_then same_marked_type (λ _ _ _. same_done refl))
        (same_either (same_then same_round_type (λ _ _ _. same_done refl))
        (same_either same_task_type same_named_type)))

    pub same_type : Alike-form Any (type one) (type two)
    unfolding type
    same_type = same_rule (same_then same_written_type (λ _ _ _. same_done tt))

    pub same_task_inner : Alike-form Any (task_inner one) (task_inner two)
    unfolding task_inner
    same_task_inner =
        same_rule (same_then same_type (λ _ _ _. same_then (same_quote (codes ",")) (λ _ _ _.
        same_then (same_quote (codes "Never")) (λ _ _ _. same_then (same_quote (codes ">"))
        (λ _ _ _. same_done tt)))))

    -- Of types it is asked whether there are none.
    pub same_types : Alike-form (λ a b. is_empty a ≡ is_empty b) (types one) (types two)
    unfolding types
    same_types =
        same_rule (same_either (same_then (same_quote (codes ")")) (λ _ _ _. same_done refl))
        (same_then same_type (λ a b _. same_then
        (same_turns (λ xs ys. is_empty xs ≡ is_empty ys) (λ _ _ _. refl) refl
        (λ xs ys _. same_then (same_quote (codes ",")) (λ _ _ _.
        same_then same_type (λ x y _. same_done (never_empty xs ys x y)))))
        (λ _ _ is. same_then (same_quote (codes ")")) (λ _ _ _. same_done is)))))
      where
        never_empty : (xs ys : List TypeTree) (x y : TypeTree)
            → is_empty (xs ++ x ∷ []) ≡ is_empty (ys ++ y ∷ [])
        never_empty [] [] x y = refl
        never_empty [] (_ ∷ _) x y = refl
        never_empty (_ ∷ _) [] x y = refl
        never_empty (_ ∷ _) (_ ∷ _) x y = refl
