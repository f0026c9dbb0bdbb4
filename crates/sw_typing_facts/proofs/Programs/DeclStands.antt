-- What is made of a declaration stands among what is made of its program, and has the number of
-- what stands before it. No rule is breached in it where none is breached in the program.
use Rattle.std.proofs.Common.{◌≡◌, ℕ, ◌+◌, ◌≤◌, List, [], ◌∷◌, ◌++◌, Some, None, flat_map, length}
use Rattle.std.proofs.Common.{refl, ap, sym, ◌∙◌, subst, arith, Contains}
use Rattle.std.specs.Prelude.{slice_get}
use Rattle.sw_list.proofs.Members.{none_in}
use Rattle.sw_tree.specs.declared.decl.Decl.{Decl}
use Rattle.sw_tree.specs.declared.decl.Decl.TheVariants.{Entry, Struct, Enum, Class, Actor}
use Rattle.sw_tree.specs.declared.decl.Decl.TheVariants.{GlobalActor, Func, Global}
use Rattle.sw_types.specs.declared.shape.Shape.{Shape}
use Rattle.sw_decl_words.proofs.WithinLemmas.{one_shape, shapes_counted}
use Rattle.sw_decl_words.specs.Evident.{Meanings, meanings_of}
use Rattle.sw_decl_words.specs.Shaped.{shape_of}
use Rattle.sw_decl_words.specs.Words.{shapes_made, top_meaning}
use Rattle.sw_decl_members.specs.Members.{in_decl, in_program}
use Rattle.sw_decl_values.specs.Profile as profile
use Rattle.sw_decls.specs.Declaring.{IsFirstBreach}
use Rattle.sw_decls.specs.Signatures.{global_of}
use Rattle.sw_decls.specs.declared.signature.AsyncDefault.{AsyncDefault}
use Rattle.sw_decls.specs.declared.signature.GlobalVar.{GlobalVar}
use Rattle.sw_typing_rules.specs.Programs.{ValueOf, values_from, values_of}
use Rattle.sw_typing_rules.specs.Worlds.{IsWorldOf, World}
use Rattle.sw_decl_words.specs.Words.{globals_made}
use Rattle.sw_typing_facts.proofs.Lists.Listed.{in_first}
use Rattle.sw_typing_facts.proofs.Programs.MadeOf.{shapes_are}
use Rattle.sw_typing_facts.proofs.Programs.Standing.{Stands, at_place, made_by_one, made_from}

-- what each declaration makes alone
pub made_flat : {X : Type 0} (makes : Decl → List X) (number index : ℕ) (decls : List Decl)
    → flat_map makes decls ≡ made_from (λ n g decl. makes decl) number index decls
made_flat makes number index [] = refl
made_flat makes number index (decl ∷ decls) =
    ap (λ more. makes decl ++ more)
    (made_flat makes (number + shapes_made decl) (index + globals_made decl) decls)

-- what a program's words mean, by its world
pub known_is : (decls : List Decl) (rule : AsyncDefault) (world : World)
    → IsWorldOf decls rule world → world.known ≡ meanings_of decls
known_is decls rule world is =
    λ i. record { top = λ id. is.words id i; members = λ shape word. is.members shape word i }

-- first values
values_are : (world : World) (number index : ℕ) (decls : List Decl)
    → values_from world number decls
    ≡ made_from (λ n g decl. values_of world n decl) number index decls
values_are world number index [] = refl
values_are world number index (decl ∷ decls) =
    ap (λ more. values_of world number decl ++ more)
    (values_are world (number + shapes_made decl) (index + globals_made decl) decls)

-- A first value of a declaration is one of the program.
pub value_stands : (world : World) (decls : List Decl) (n g : ℕ) (decl : Decl) (value : ValueOf)
    → Stands decls n g decl → Contains (values_of world n decl) value
    → Contains (values_from world 0 decls) value
value_stands world decls n g decl value stands has =
    subst (λ values. Contains values value) (sym (values_are world 0 0 decls))
    (made_by_one (λ n g decl. values_of world n decl) 0 0 decls n g decl value stands has)

-- The shape of a declaration has the number of shapes before it.
pub shape_there : (decls : List Decl) (rule : AsyncDefault) (world : World)
    → IsWorldOf decls rule world → (n g : ℕ) (decl : Decl) (shape : Shape) → Stands decls n g decl
    → slice_get (shape_of (meanings_of decls) n decl) 0 ≡ Some shape
    → slice_get world.shapes n ≡ Some shape
shape_there decls rule world is n g decl shape stands made =
    let known = meanings_of decls in
    ap (λ shapes. slice_get shapes n) (is.shapes ∙ shapes_are known 0 0 decls)
    ∙ at_place (λ n g decl. shape_of known n decl) (λ n g. n) shapes_made (λ n g decl. refl)
    (λ n g decl. shapes_counted known n decl) one_shape 0 0 decls n g decl shape n stands made
    (omega arith)

-- A declaration makes as many global variables as are counted.
pub globals_counted : (known : Meanings) (decl : Decl)
    → length (global_of known decl) ≡ globals_made decl
globals_counted known (Entry word written at is_async body) = refl
globals_counted known (Struct word conforms fields funcs) = refl
globals_counted known (Enum word conforms cases funcs) = refl
globals_counted known (Class written word conforms props inits funcs) = refl
globals_counted known (Actor word props inits funcs) = refl
globals_counted known (GlobalActor word made) = refl
globals_counted known (Func func) = refl
globals_counted known (Global global) = refl

-- It makes one at most.
pub one_global : (decl : Decl) → globals_made decl ≤ 1
one_global (Entry word written at is_async body) = omega arith
one_global (Struct word conforms fields funcs) = omega arith
one_global (Enum word conforms cases funcs) = omega arith
one_global (Class written word conforms props inits funcs) = omega arith
one_global (Actor word props inits funcs) = omega arith
one_global (GlobalActor word made) = omega arith
one_global (Func func) = omega arith
one_global (Global global) = omega arith

-- A global variable has the number of those before it.
pub global_there : (decls : List Decl) (rule : AsyncDefault) (world : World)
    → IsWorldOf decls rule world → (n g : ℕ) (decl : Decl) (global : GlobalVar)
    → Stands decls n g decl → slice_get (global_of (meanings_of decls) decl) 0 ≡ Some global
    → slice_get world.globals g ≡ Some global
global_there decls rule world is n g decl global stands made =
    let known = meanings_of decls in
    ap (λ globals. slice_get globals g)
    (is.globals ∙ made_flat (global_of known) 0 0 decls)
    ∙ at_place (λ n g decl. global_of known decl) (λ n g. g) globals_made (λ n g decl. refl)
    (λ n g decl. globals_counted known decl) one_global 0 0 decls n g decl global g stands made
    (omega arith)

-- Where nothing is made of a program, nothing is made of its declarations.
none_made : {X : Type 0} (makes : ℕ → ℕ → Decl → List X) (decls : List Decl) (n g : ℕ) (decl : Decl)
    → Stands decls n g decl → made_from makes 0 0 decls ≡ [] → makes n g decl ≡ []
none_made {X} makes decls n g decl stands none = by (makes n g decl) refl where
  by : (xs : List X) → makes n g decl ≡ xs → xs ≡ []
  by [] is = refl
  by (x ∷ xs) is =
      absurd (none_in x (subst (λ all. Contains all x) none
      (made_by_one makes 0 0 decls n g decl x stands
      (subst (λ all. Contains all x) (sym is) (in_first x xs)))))

-- where two lists are empty together, the first is
pub none_left : {X : Type 0} (xs ys : List X) → xs ++ ys ≡ [] → xs ≡ []
none_left [] ys none = refl
none_left (x ∷ xs) ys none = cc

-- and the second is
pub none_right : {X : Type 0} (xs ys : List X) → xs ++ ys ≡ [] → ys ≡ []
none_right [] ys none = none
none_right (x ∷ xs) ys none = cc

-- where no value breaches a rule
profile_are : (number index : ℕ) (known : Meanings) (decls : List Decl)
    → profile.values_from known number decls
    ≡ made_from (λ n g decl. profile.values_of known n decl) number index decls
profile_are number index known [] = refl
profile_are number index known (decl ∷ decls) =
    ap (λ more. profile.values_of known number decl ++ more)
    (profile_are (number + shapes_made decl) (index + globals_made decl) known decls)

-- The values of a declaration breach no rule where none is breached.
pub sound_values : (decls : List Decl) → IsFirstBreach decls None → (n g : ℕ) (decl : Decl)
    → Stands decls n g decl → profile.values_of (meanings_of decls) n decl ≡ []
sound_values decls (marks, (are, none)) n g decl stands =
    let known = meanings_of decls in
    none_made (λ n g decl. profile.values_of known n decl) decls n g decl stands
    (sym (profile_are 0 0 known decls)
    ∙ none_right (in_program (top_meaning decls) decls) (profile.values_from known 0 decls)
    (none_left (in_program (top_meaning decls) decls ++ profile.values_from known 0 decls) _ none))

-- and no name and no written type does
pub sound_names : (decls : List Decl) → IsFirstBreach decls None → (n g : ℕ) (decl : Decl)
    → Stands decls n g decl → in_decl (top_meaning decls) decl ≡ []
unfolding in_program
sound_names decls (marks, (are, none)) n g decl stands =
    let known = top_meaning decls in
    none_made (λ n g decl. in_decl known decl) decls n g decl stands
    (sym (made_flat (in_decl known) 0 0 decls)
    ∙ none_left (flat_map (in_decl known) decls) _
    (none_left (in_program known decls) (profile.values_from (meanings_of decls) 0 decls)
    (none_left (in_program known decls ++ profile.values_from (meanings_of decls) 0 decls) _ none)))
