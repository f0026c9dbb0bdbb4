-- In a program whose keys are its nodes' own and tell scopes, each body and each first value stands;
-- parameters and the words of types are no `var`s.
use Rattle.std.proofs.Common.{◌≡◌, ℕ, ◌+◌, ◌<◌, ◌≤◌, Bool, false, List, [], ◌∷◌, ◌++◌, map}
use Rattle.std.proofs.Common.{flat_map, Option, None, Some, option_map, Contains, inl, inr, nat_eq}
use Rattle.std.proofs.Common.{refl, ap, sym, subst, ◌∙◌, arith}
use Rattle.std.specs.List.{IsDistinct}
use Rattle.std.specs.Prelude.{All, slice_get}
use Rattle.std.proofs.lemmas.List.Elements.{All-contains}
use Rattle.sw_list.proofs.Members.{none_in}
use Rattle.sw_tree.specs.Contents.{AreKeyed}
use Rattle.sw_tree.specs.Keys as tree
use Rattle.sw_tree.specs.Keys.{Keys, block_keys, decl_keys, expr_keys, func_keys, init_keys}
use Rattle.sw_tree.specs.Keys.{params_keys}
use Rattle.sw_tree.specs.declared.decl.Decl.{Decl}
use Rattle.sw_tree.specs.declared.decl.Decl.TheVariants.{Entry, Struct, Enum, Class, Actor}
use Rattle.sw_tree.specs.declared.decl.Decl.TheVariants.{GlobalActor, Func, Global}
use Rattle.sw_tree.specs.declared.decl.FuncTree.{FuncTree}
use Rattle.sw_tree.specs.declared.decl.InitTree.{InitTree}
use Rattle.sw_tree.specs.declared.decl.ParamTree.{ParamTree}
use Rattle.sw_tree.specs.declared.decl.PropTree.{PropTree}
use Rattle.sw_tree.specs.declared.decl.Written.{Written}
use Rattle.sw_tree.specs.declared.expr.Expr.{Expr}
use Rattle.sw_tree.specs.declared.name.Name.{Name}
use Rattle.sw_tree.specs.declared.stmt.Block.{Block}
use Rattle.sw_tree.proofs.Counting.{count, hits, in_all-append, in_all-cons}
use Rattle.sw_tree.proofs.KeyEquations as keys
use Rattle.sw_types.specs.declared.shape.Shape.{Shape}
use Rattle.sw_decl_words.proofs.WithinLemmas.{one_shape, shapes_counted}
use Rattle.sw_decl_words.specs.Evident.{meanings_of}
use Rattle.sw_decl_words.specs.Shaped.{shape_of}
use Rattle.sw_decl_words.specs.Words.{shapes_made}
use Rattle.sw_decls.specs.declared.signature.AsyncDefault.{AsyncDefault}
use Rattle.sw_decls.specs.declared.signature.Signature.{Signature}
use Rattle.sw_typing_rules.proofs.OneWorld.{distinct_once}
use Rattle.sw_typing_rules.specs.Programs.{param_var}
use Rattle.sw_typing_rules.specs.Worlds.{IsWorldOf, World}
use Rattle.sw_typing_rules.specs.declared.scope.Var.{Var}
use Rattle.sw_isolation_rules.specs.Answers.{Answers}
use Rattle.sw_isolation_rules.specs.Captures.{is_among, self_of}
use Rattle.sw_isolation_rules.specs.Kinds.{shape_iso}
use Rattle.sw_isolation_rules.specs.Lists.{vars_in}
use Rattle.sw_isolation_rules.specs.Noting.{block_notes, see}
use Rattle.sw_isolation_rules.specs.Programs.{context_of, decl_notes, func_at, func_context}
use Rattle.sw_isolation_rules.specs.Programs.{func_notes, init_notes, noted, notes_from}
use Rattle.sw_isolation_rules.specs.declared.note.Note.{Note}
use Rattle.sw_decl_words.specs.Words.{globals_made}
use Rattle.sw_typing_facts.proofs.Programs.DeclParts.{funcs_in, inits_in, props_in}
use Rattle.sw_typing_facts.proofs.Programs.MadeOf.{shapes_are}
use Rattle.sw_typing_facts.proofs.Programs.Standing.{PlaceOf, Stands as StandsAt, StandsFrom}
use Rattle.sw_typing_facts.proofs.Programs.Standing.{place_of_thing}
use Rattle.sw_lower_total_facts.specs.Noted.{Sight, StandsInText, keys_of}
use Rattle.sw_tree.specs.Scopes.{AreLess, AreScoped, Scoped, block_scoped, body_pairs}
use Rattle.sw_tree.specs.Scopes.{declaring, expr_scoped, maybe, prop_pairs}
use Rattle.sw_lower_total_facts.proofs.Mentions.Declared.{AreNamed}
use Rattle.sw_lower_total_facts.proofs.Standing.Covering.{Covers}
use Rattle.sw_lower_total_facts.proofs.Standing.Declared as decl
use Rattle.sw_lower_total_facts.proofs.Standing.Declared.{global_iso, inner_keys}
use Rattle.sw_lower_total_facts.proofs.Standing.Declared.{keys_split, words_of}
use Rattle.sw_tree.proofs.KeyMembers.{counted}
use Rattle.sw_tree.proofs.Members.{in_map}
use Rattle.sw_lower_total_facts.proofs.Standing.Noting.{Lacks, lacks_join, lacks_nothing}
use Rattle.sw_lower_total_facts.proofs.Standing.Ordered.{IsLess, entry_less, func_less, global_less}
use Rattle.sw_lower_total_facts.proofs.Standing.Ordered.{init_less, owner_of, prop_less, self_words}
use Rattle.sw_lower_total_facts.proofs.Standing.Own.{none_among}
use Rattle.sw_lower_total_facts.proofs.Standing.Owners.{entry_owner, func_owner, init_owner}
use Rattle.sw_lower_total_facts.proofs.Standing.Parts.{IsShare, later_apart, not_later, share_all}
use Rattle.sw_lower_total_facts.proofs.Standing.Parts.{share_among, share_apart, share_left}
use Rattle.sw_lower_total_facts.proofs.Standing.Parts.{share_right, share_then}
use Rattle.sw_lower_total_facts.proofs.Standing.Scopes.{all_among, all_of_each}
use Rattle.sw_lower_total_facts.proofs.Standing.Seen.{declared_stands, sight}

module _ (world : World) (answers : Answers) where
  -- What is noted of declarations is of their keys.
  from_covers : (number : ℕ) (decls : List Decl)
      → Covers (notes_from world answers number decls) (flat_map decl_keys decls)
  from_covers number [] key none = lacks_nothing key
  from_covers number (first ∷ decls) key none =
      let split = in_all-append hits (decl_keys first) (flat_map decl_keys decls) key in
      lacks_join _ _ key
      (decl.decl_covers world answers number first key (omega (arith, none, split)))
      (from_covers (number + shapes_made first) decls key (omega (arith, none, split)))

  -- and of those of one of them it is what is noted of that one.
  from_share : (number index : ℕ) (decls : List Decl) (n g : ℕ) (one : Decl)
      → StandsFrom number index decls n g one
      → IsShare (notes_from world answers number decls) (flat_map decl_keys decls)
      (decl_notes world answers n one) (decl_keys one)
  from_share number index [] n g one stands = absurd stands
  from_share number index (first ∷ decls) n g one (inl (shapes, globals, same)) =
      subst (λ k. IsShare (notes_from world answers number (first ∷ decls))
      (flat_map decl_keys (first ∷ decls)) (decl_notes world answers k one) (decl_keys one)) shapes
      (subst (λ d. IsShare (notes_from world answers number (first ∷ decls))
      (flat_map decl_keys (first ∷ decls)) (decl_notes world answers number d) (decl_keys d)) same
      (share_left (decl_notes world answers number first) _ (decl_keys first) _
      (from_covers (number + shapes_made first) decls)))
  from_share number index (first ∷ decls) n g one (inr later) =
      share_then _ _ _ _ _ _
      (share_right (decl_notes world answers number first) _ (decl_keys first) _
      (decl.decl_covers world answers number first))
      (from_share (number + shapes_made first) (index + globals_made first) decls n g one later)

  pub decl_share : (decls : List Decl) (n g : ℕ) (one : Decl) → StandsAt decls n g one
      → IsShare (noted world answers decls) (tree.keys_of decls) (decl_notes world answers n one)
      (decl_keys one)
  unfolding tree.keys_of
  decl_share decls n g one stands = from_share 0 0 decls n g one stands

word_is : (one shape : Shape) → one ∷ [] ≡ shape ∷ [] → one.at ∷ [] ≡ shape.at ∷ []
word_is one shape same = ap (map (λ (s : Shape). s.at)) same

-- the names of parameters, and their variables
abbrev names_of : List ParamTree → List Name
names_of params = map (λ (param : ParamTree). param.name) params

params_named : (world : World) (params : List ParamTree)
    → AreNamed (map (param_var world) params) (names_of params)
params_named world [] = refl
params_named world (param ∷ params) =
    ap (λ more. (param.name.id, param.name.at) ∷ more) (params_named world params)

params_are : (world : World) (params : List ParamTree)
    → keys_of (map (param_var world) params) ≡ params_keys params
params_are world [] = refl
params_are world (param ∷ params) =
    ap (λ more. param.name.at ∷ more) (params_are world params)

module _ (decls : List Decl) (rule : AsyncDefault) (world : World) (answers : Answers)
    (keyed : AreKeyed decls) (scoped : AreScoped decls) (is : IsWorldOf decls rule world) where
  abbrev all : List Note
  all = noted world answers decls

  -- what is visible in a member of a type, with these parameters
  abbrev pub sight_with : Option ℕ → List ParamTree → Sight
  sight_with owner params = sight (self_of world owner) (map (param_var world) params)

  -- A share of the program stands where no variable is visible, by what keys tell of it.
  share_stands : (part : List Note) (part_keys : Keys) (part_scoped : Scoped) (me : Keys)
      → IsShare all (tree.keys_of decls) part part_keys → AreLess part_scoped.pairs
      → All (λ word. All (λ key. word < key) part_keys) me
      → StandsInText all (sight me []) part part_keys part_scoped
  share_stands part part_keys part_scoped me share less own = record {
    alone = share_all all all (tree.keys_of decls) part part_keys share keyed
        (record { kinds = λ key has. refl; held = λ key has. refl; vars = λ key has. refl });
    apart = share_apart all (tree.keys_of decls) part part_keys share keyed;
    less = less;
    before = λ word has one found. absurd (none one found);
    own = own;
    elsewhere = λ key visible. absurd (none_in key visible);
  } where
    none : (one : Var) → None ≡ Some one → ⊥
    none one found = cc

  -- Of a key of a part of which nothing is noted there, no `var` is noted.
  share_no_var : (part : List Note) (part_keys : Keys) (key : ℕ)
      → IsShare all (tree.keys_of decls) part part_keys → 1 ≤ count part_keys key
      → Lacks part key → is_among (vars_in all) key ≡ false
  share_no_var part part_keys key share some none =
      none_among (vars_in all) key
      ((share.alike key some (distinct_once (tree.keys_of decls) keyed key)).vars ∙ none.vars)

  module _ (n g : ℕ) (one : Decl) (stands : StandsAt decls n g one) where
    -- `self` in a member is the word of the type, which stands before the keys of the member.
    own_before : (owner : Option ℕ) (own part : Keys) → owner ≡ owner_of n one
        → All (λ word. All (λ key. word < key) own) (words_of one)
        → ((key : ℕ) → Contains part key → Contains own key)
        → All (λ word. All (λ key. word < key) part) (self_of world owner)
    own_before owner own part same before among =
        subst (All (λ word. All (λ key. word < key) part))
        (sym (ap (self_of world) same ∙ self_words decls rule world is n g one stands))
        (all_of_each (λ word. All (λ key. word < key) part) (words_of one) (λ word has.
        all_among (λ key. word < key) own part among
        (All-contains (λ word. All (λ key. word < key) own) (words_of one) word before has)))

    -- The body of a member stands where its parameters are visible.
    body_stands : (owner : Option ℕ) (at : ℕ) (params : List ParamTree) (body : Block)
        (member : List Note) (own : Keys) (notes : List Note) → owner ≡ owner_of n one
        → IsShare all (tree.keys_of decls) member own
        → own ≡ at ∷ (params_keys params ++ block_keys body)
        → IsShare member own notes (block_keys body)
        → IsLess (words_of one) own (body_pairs params body)
        → StandsInText all (sight_with owner params) notes (block_keys body) (block_scoped body)
    body_stands owner at params body member own notes same whole own_is share placed =
        declared_stands all (self_of world owner) [] (map (param_var world) params)
        (names_of params) notes (block_keys body) (block_scoped body) (params_named world params)
        (λ key has.
        not_later (params_keys params) (block_keys body) key
        (later_apart at (params_keys params ++ block_keys body)
        (subst (IsDistinct nat_eq) own_is
        (share_apart all (tree.keys_of decls) member own whole keyed)))
        (subst (λ list. Contains list key) (params_are world params) has))
        (share_stands notes (block_keys body)
        (declaring (names_of params) [] (block_scoped body)) (self_of world owner)
        (share_then _ _ _ _ _ _ whole share) placed.less
        (own_before owner own (block_keys body) same placed.own
        (share_among member own notes (block_keys body) share)))

    -- The body of a function or a method stands.
    pub func_body_stands : (func : FuncTree) (signed : Signature) → Contains (funcs_in one) func
        → func_at world answers func.word.at ≡ Some signed
        → StandsInText all (sight_with signed.owner func.params)
        (block_notes world answers func.body (func_context signed) []) (block_keys func.body)
        (block_scoped func.body)
    func_body_stands func signed has found =
        body_stands signed.owner func.word.at func.params func.body
        (func_notes world answers func) (func_keys func) _
        (func_owner decls rule world answers keyed is n g one stands func signed has found)
        (share_then _ _ _ _ _ _ (decl_share world answers decls n g one stands)
        (decl.decl_func world answers n one func has))
        (keys.func_keys-is func) (decl.func_share world answers func signed found)
        (func_less decls scoped n g one stands func has)

    -- and that of an initialiser
    pub init_body_stands : (init : InitTree) (signed : Signature) → Contains (inits_in one) init
        → func_at world answers init.at ≡ Some signed
        → StandsInText all (sight_with signed.owner init.params)
        (block_notes world answers init.body (func_context signed) []) (block_keys init.body)
        (block_scoped init.body)
    init_body_stands init signed has found =
        body_stands signed.owner init.at init.params init.body (init_notes world answers init)
        (init_keys init) _
        (init_owner decls rule world answers keyed is n g one stands init signed has found)
        (share_then _ _ _ _ _ _ (decl_share world answers decls n g one stands)
        (decl.decl_init world answers n one init has))
        (keys.init_keys-is init) (decl.init_share world answers init signed found)
        (init_less decls scoped n g one stands init has)

    -- A first value stands.
    value_stands : (owner : Option ℕ) (prop : PropTree) (value : Expr) (member : List Note)
        (own : Keys) (notes : List Note) → prop.value ≡ Some value → owner ≡ owner_of n one
        → IsShare all (tree.keys_of decls) member own
        → IsShare member own notes (expr_keys value)
        → IsLess (words_of one) own (prop_pairs prop)
        → StandsInText all (sight_with owner []) notes (expr_keys value) (expr_scoped value)
    value_stands owner prop value member own notes given same whole share placed =
        share_stands notes (expr_keys value) (expr_scoped value) (self_of world owner)
        (share_then _ _ _ _ _ _ whole share)
        (subst (λ found. AreLess (maybe (option_map expr_scoped found)).pairs) given placed.less)
        (own_before owner own (expr_keys value) same placed.own
        (share_among member own notes (expr_keys value) share))

    -- The first value of a property stands.
    pub prop_value_stands : (prop : PropTree) (shape : Shape) (value : Expr)
        → Contains (props_in one) prop → slice_get world.shapes n ≡ Some shape
        → owner_of n one ≡ Some n → prop.value ≡ Some value
        → StandsInText all (sight_with (Some n) [])
        ((see world answers value).notes (context_of (shape_iso shape) false (Some n)) [])
        (expr_keys value) (expr_scoped value)
    prop_value_stands prop shape value has there owned given =
        value_stands (Some n) prop value _ _ _ given (sym owned)
        (share_then _ _ _ _ _ _ (decl_share world answers decls n g one stands)
        (decl.decl_prop world answers n one prop has))
        (decl.prop_share world answers n prop shape value there given)
        (prop_less decls scoped n g one stands prop has)

    -- The parameters of functions, methods and initialisers are no `var`s.
    param_no_var : (notes : List Note) (own : Keys) (at : ℕ) (params : List ParamTree)
        (body : Block) (key : ℕ) → IsShare all (tree.keys_of decls) notes own
        → own ≡ at ∷ (params_keys params ++ block_keys body)
        → (count (block_keys body) key ≡ 0 → Lacks notes key) → Contains (params_keys params) key
        → is_among (vars_in all) key ≡ false
    param_no_var notes own at params body key share own_is lacks param =
        share_no_var notes own key share (omega (arith, there, split))
        (lacks (omega (
          arith,
          there,
          split,
          share.fewer key,
          distinct_once (tree.keys_of decls) keyed key,
        ))) where
          there : 1 ≤ count (params_keys params) key
          there = counted (params_keys params) key param

          split : count own key
              ≡ hits at key + count (params_keys params) key + count (block_keys body) key
          split = omega (
            arith,
            ap (λ list. count list key) own_is,
            in_all-cons hits at (params_keys params ++ block_keys body) key,
            in_all-append hits (params_keys params) (block_keys body) key,
          )

    pub func_param_no_var : (func : FuncTree) (key : ℕ) → Contains (funcs_in one) func
        → Contains (params_keys func.params) key → is_among (vars_in all) key ≡ false
    func_param_no_var func key has =
        param_no_var (func_notes world answers func) (func_keys func) func.word.at func.params
        func.body key
        (share_then _ _ _ _ _ _ (decl_share world answers decls n g one stands)
        (decl.decl_func world answers n one func has))
        (keys.func_keys-is func) (decl.body_covers world answers func.word.at func.body key)

    pub init_param_no_var : (init : InitTree) (key : ℕ) → Contains (inits_in one) init
        → Contains (params_keys init.params) key → is_among (vars_in all) key ≡ false
    init_param_no_var init key has =
        param_no_var (init_notes world answers init) (init_keys init) init.at init.params init.body
        key
        (share_then _ _ _ _ _ _ (decl_share world answers decls n g one stands)
        (decl.decl_init world answers n one init has))
        (keys.init_keys-is init) (decl.body_covers world answers init.at init.body key)

    pub func_params_no_var : (func : FuncTree) → Contains (funcs_in one) func
        → (param : ParamTree) → Contains func.params param
        → is_among (vars_in all) param.name.at ≡ false
    func_params_no_var func has param there =
        func_param_no_var func param.name.at has
        (in_map (λ (one : ParamTree). one.name.at) func.params param there)

    pub init_params_no_var : (init : InitTree) → Contains (inits_in one) init
        → (param : ParamTree) → Contains init.params param
        → is_among (vars_in all) param.name.at ≡ false
    init_params_no_var init has param there =
        init_param_no_var init param.name.at has
        (in_map (λ (one : ParamTree). one.name.at) init.params param there)

    -- The word of a type is no `var`.
    word_no_var : (key : ℕ) → Contains (words_of one) key → is_among (vars_in all) key ≡ false
    word_no_var key has =
        share_no_var (decl_notes world answers n one) (decl_keys one) key share
        (omega (arith, there, split))
        (decl.inner_covers world answers n one key
        (omega (
          arith,
          there,
          split,
          share.fewer key,
          distinct_once (tree.keys_of decls) keyed key,
        ))) where
          share : IsShare all (tree.keys_of decls) (decl_notes world answers n one) (decl_keys one)
          share = decl_share world answers decls n g one stands

          there : 1 ≤ count (words_of one) key
          there = counted (words_of one) key has

          split : count (decl_keys one) key
              ≡ count (words_of one) key + count (inner_keys one) key
          split = ap (λ list. count list key) (keys_split one)
              ∙ in_all-append hits (words_of one) (inner_keys one) key

  -- The body of the entry stands.
  pub entry_body_stands : (n g : ℕ) (word : Name) (written : Written) (at : ℕ) (is_async : Bool)
      (body : Block) (signed : Signature)
      → StandsAt decls n g (Entry word written at is_async body)
      → func_at world answers at ≡ Some signed
      → StandsInText all (sight_with signed.owner [])
      (block_notes world answers body (func_context signed) []) (block_keys body)
      (block_scoped body)
  entry_body_stands n g word written at is_async body signed stands found =
      share_stands _ _ _ _
      (share_then _ _ _ _ _ _ (decl_share world answers decls n g entry stands)
      (share_then _ _ _ _ _ _ (decl.decl_entry world answers n word written at is_async body)
      (decl.body_share world answers at body signed found)))
      placed.less
      (own_before n g entry stands signed.owner (block_keys body) (block_keys body)
      (entry_owner decls rule world answers keyed is n g word written at is_async body signed
      stands found) placed.own (λ key has. has)) where
        entry : Decl
        entry = Entry word written at is_async body

        placed : IsLess [] (block_keys body) (block_scoped body).pairs
        placed = entry_less decls scoped n g word written at is_async body stands

  -- The first value of a global variable stands.
  pub global_value_stands : (n g : ℕ) (prop : PropTree) (value : Expr)
      → StandsAt decls n g (Global prop) → prop.value ≡ Some value
      → StandsInText all (sight_with None [])
      ((see world answers value).notes (context_of (global_iso world answers prop) false None) [])
      (expr_keys value) (expr_scoped value)
  global_value_stands n g prop value stands given =
      value_stands n g (Global prop) stands None prop value _ _ _ given refl
      (share_then _ _ _ _ _ _ (decl_share world answers decls n g (Global prop) stands)
      (decl.decl_global world answers n prop))
      (decl.global_share world answers prop value given)
      (global_less decls scoped n g prop stands)

  -- The words of types are no `var`s.
  shape_word : (n : ℕ) (one : Decl) (shape : Shape)
      → shape_of (meanings_of decls) n one ≡ shape ∷ [] → words_of one ≡ shape.at ∷ []
  unfolding shape_of
  shape_word n (Entry word written at is_async body) shape made = cc
  shape_word n (Struct word conforms fields funcs) shape made = word_is _ shape made
  shape_word n (Enum word conforms cases funcs) shape made = word_is _ shape made
  shape_word n (Class written word conforms props inits funcs) shape made = word_is _ shape made
  shape_word n (Actor word props inits funcs) shape made = word_is _ shape made
  shape_word n (GlobalActor word given) shape made = cc
  shape_word n (Func func) shape made = cc
  shape_word n (Global prop) shape made = cc

  pub selves_no_var : (k : ℕ) (shape : Shape) → slice_get world.shapes k ≡ Some shape
      → is_among (vars_in all) shape.at ≡ false
  selves_no_var k shape there =
      word_no_var place.n place.g place.decl place.stands shape.at
      (subst (λ list. Contains list shape.at)
      (sym (shape_word place.n place.decl shape place.is)) (0, omega arith, refl)) where
        place : PlaceOf (λ n g one. shape_of (meanings_of decls) n one) (λ n g. n) shapes_made
            (λ n g one. refl) (λ n g one. shapes_counted (meanings_of decls) n one) one_shape 0 0
            decls k shape
        place = place_of_thing (λ n g one. shape_of (meanings_of decls) n one) (λ n g. n)
            shapes_made (λ n g one. refl)
            (λ n g one. shapes_counted (meanings_of decls) n one) one_shape 0 0 decls k shape
            (subst (λ shapes. slice_get shapes k ≡ Some shape)
            (is.shapes ∙ shapes_are (meanings_of decls) 0 0 decls) there)
