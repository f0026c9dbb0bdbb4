-- What is noted of a program as isolated to `self` has its key in an actor.
use Rattle.std.proofs.Common.{◌≡◌, ℕ, ◌+◌, ◌≤◌, Bool, true, false, List, [], ◌∷◌, map}
use Rattle.std.proofs.Common.{flat_map, Option, Some, None, Contains, refl, sym, ap, ◌∙◌, subst}
use Rattle.std.proofs.Common.{arith, inl, inr, length}
use Rattle.std.proofs.lemmas.Bool.{eqb-true}
use Rattle.std.proofs.lemmas.List.Elements.{Contains-append_left, Contains-append_right}
use Rattle.std.proofs.lemmas.Option.{same_Some}
use Rattle.std.specs.List.{AllByRecursion}
use Rattle.std.specs.Prelude.{◌==◌, if◌then◌else◌}
use Rattle.sw_tree.specs.Contents.{AreKeyed}
use Rattle.sw_tree.specs.declared.decl.Decl.{Decl}
use Rattle.sw_tree.specs.declared.decl.Decl.TheVariants.{Entry, Struct, Enum, Class, Actor}
use Rattle.sw_tree.specs.declared.decl.Decl.TheVariants.{GlobalActor, Func, Global}
use Rattle.sw_tree.specs.declared.decl.FuncTree.{FuncTree}
use Rattle.sw_tree.specs.declared.decl.InitTree.{InitTree}
use Rattle.sw_tree.specs.declared.decl.PropTree.{PropTree}
use Rattle.sw_tree.specs.declared.decl.Written.{Written}
use Rattle.sw_tree.specs.declared.name.Name.{Name}
use Rattle.sw_tree.proofs.Counting.{hits_same, in_option}
use Rattle.sw_tree.proofs.KeyCounts as keys
use Rattle.sw_tree.proofs.KeyCounts.{in_block, in_decl, in_expr, in_func, in_init, in_prop}
use Rattle.sw_tree.proofs.Members.{in_map}
use Rattle.sw_types.specs.declared.isolation.Iso.{Iso}
use Rattle.sw_types.specs.declared.isolation.Iso.TheVariants as iso
use Rattle.sw_types.specs.declared.shape.Shape.{Shape}
use Rattle.sw_types.specs.declared.shape.ShapeKind.TheVariants as kinds
use Rattle.sw_decl_words.specs.Shaped.{shape_of, written_actor}
use Rattle.sw_decl_words.specs.Words.{shapes_made, top_meaning}
use Rattle.sw_decl_words.specs.declared.words.Meaning.{Meaning}
use Rattle.sw_decls.specs.Declaring.{key_place}
use Rattle.sw_decls.specs.Signatures.{actor_iso, func_of, funcs_of, init_of, inits_of}
use Rattle.sw_decls.specs.declared.signature.AsyncDefault.{AsyncDefault}
use Rattle.sw_decls.specs.declared.signature.Signature.{Signature}
use Rattle.sw_typing_rules.specs.Worlds.{IsWorldOf, World}
use Rattle.sw_isolation_rules.specs.Answers.{Answers}
use Rattle.sw_isolation_rules.specs.Kinds.{is_own, kind_iso, shape_iso}
use Rattle.sw_isolation_rules.specs.Lists.{bodies_in}
use Rattle.sw_isolation_rules.specs.Programs.{decl_notes, func_at, func_notes, global_notes, noted}
use Rattle.sw_isolation_rules.specs.Programs.{notes_from}
use Rattle.sw_isolation_rules.specs.declared.note.BodyIso.{BodyIso}
use Rattle.sw_isolation_rules.specs.declared.note.Note.{Note}
use Rattle.sw_isolation_rules.specs.declared.note.Note.TheVariants.{Body, Kind, Refused, Race, Var}
use Rattle.sw_isolation_rules.specs.declared.note.Note.TheVariants.{Mentioned, Captures}
use Rattle.sw_decl_words.specs.Words.{globals_made}
use Rattle.sw_lower_rules.specs.Tables.{body_with}
use Rattle.sw_lower_formed_facts.proofs.Headers.FoundFuncs.{found_func, func_is}
use Rattle.sw_typing_facts.proofs.Lists.Listed.{in_first}
use Rattle.sw_typing_facts.proofs.Programs.DeclStands.{shape_there}
use Rattle.sw_typing_facts.proofs.Programs.Keyed.{counted_in}
use Rattle.sw_typing_facts.proofs.Programs.MadeOf.{func_stands}
use Rattle.sw_typing_facts.proofs.Programs.SignatureKeys.{numbered_key}
use Rattle.sw_typing_facts.proofs.Programs.Standing.{Stands, StandsFrom}
use Rattle.sw_lower_call_facts.specs.Owning.{OwnKey}
use Rattle.sw_lower_call_facts.proofs.BodyNotes.Members.{DefaultGood, FuncGood, PropGood, body_own}
use Rattle.sw_lower_call_facts.proofs.BodyNotes.Members.{funcs_own, getter_own, inits_own, props_own}
use Rattle.sw_lower_call_facts.proofs.BodyNotes.Members.{value_own}
use Rattle.sw_lower_call_facts.proofs.BodyNotes.Noted.{AllOwn, join}
use Rattle.sw_lower_call_facts.proofs.Functions.Owners.{actor_not_own, func_own}

-- what is isolated to `self`
own_is : (i : Iso) → is_own i ≡ true → i ≡ iso.Own
own_is iso.Free is = cc
own_is iso.Own is = refl
own_is (iso.Global actor) is = cc
own_is iso.Caller is = cc

actor_iso_free : (actor : Option ℕ) → is_own (actor_iso actor) ≡ true → ⊥
actor_iso_free None is = cc
actor_iso_free (Some number) is = cc

module _ (decls : List Decl) (rule : AsyncDefault) (world : World) (answers : Answers)
    (keyed : AreKeyed decls) (is_world : IsWorldOf decls rule world) where
  abbrev known : ℕ → Option Meaning
  known = top_meaning decls

  -- the signature of a key that one is declared with
  module _ (n g : ℕ) (decl : Decl) (stands : Stands decls n g decl) (key : ℕ) (one func : Signature)
      (declared : Contains (funcs_of known rule n decl) one) (same : key_place one ≡ key)
      (found : func_at world answers key ≡ Some func) where
    declared_iso : func.iso ≡ one.iso
    declared_iso =
        ap (λ (f : Signature). f.iso) (func_is decls rule world answers keyed is_world key func one
        found (func_stands known rule decls n g decl one stands declared) same)

    declared_key : func.key.at ≡ key
    declared_key =
        let here = found_func world answers key func found in
        numbered_key world.funcs key here.place func (sym (is_world.numbers key) ∙ here.number)
        here.at

  -- In an actor each key is good.
  module _ (n g : ℕ) (word : Name) (props : List PropTree) (inits : List InitTree)
      (funcs : List FuncTree) (stands : Stands decls n g (Actor word props inits funcs)) where
    abbrev decl : Decl
    decl = Actor word props inits funcs

    abbrev Good : ℕ → Type 0
    Good key = OwnKey decls key

    good_by : (key : ℕ) → 1 ≤ in_decl decl key → Good key
    good_by key some = record {
      n = n;
      g = g;
      word = word;
      props = props;
      inits = inits;
      funcs = funcs;
      stands = stands;
      counted = some;
    }

    in_funcs : (tree : FuncTree) → Contains funcs tree → (key : ℕ) → 1 ≤ in_func tree key
        → Good key
    in_funcs tree has key some =
        good_by key
        (omega (
          arith,
          some,
          counted_in in_func funcs tree key has,
          keys.in_decl-Actor word props inits funcs key,
        ))

    in_inits : (init : InitTree) → Contains inits init → (key : ℕ) → 1 ≤ in_init init key
        → Good key
    in_inits init has key some =
        good_by key
        (omega (
          arith,
          some,
          counted_in in_init inits init key has,
          keys.in_decl-Actor word props inits funcs key,
        ))

    in_props : (prop : PropTree) → Contains props prop → (key : ℕ) → 1 ≤ in_prop prop key
        → Good key
    in_props prop has key some =
        good_by key
        (omega (
          arith,
          some,
          counted_in in_prop props prop key has,
          keys.in_decl-Actor word props inits funcs key,
        ))

    tree_good : (tree : FuncTree) → Contains funcs tree
        → FuncGood world answers Good tree.word.at tree.body
    unfolding funcs_of
    tree_good tree has func found own = (
      subst Good (sym (declared_key n g decl stands tree.word.at
          (func_of known rule (Some n) iso.Own tree) func
          (Contains-append_right (inits_of known word n iso.Own inits)
          (map (func_of known rule (Some n) iso.Own) funcs)
          (func_of known rule (Some n) iso.Own tree)
          (in_map (func_of known rule (Some n) iso.Own) funcs tree has)) refl found))
          (in_funcs tree has tree.word.at
          (omega (arith, keys.in_func-is tree tree.word.at, hits_same tree.word.at))),
      λ k some. in_funcs tree has k (omega (arith, some, keys.in_func-is tree k)),
    )

    init_key_is : (key : ℕ) (func : Signature) → func_at world answers key ≡ Some func
        → func.key.at ≡ key
    init_key_is key func found =
        let here = found_func world answers key func found in
        numbered_key world.funcs key here.place func (sym (is_world.numbers key) ∙ here.number)
        here.at

    init_good : (init : InitTree) → Contains inits init
        → FuncGood world answers Good init.at init.body
    init_good init has func found own = (
      subst Good (sym (init_key_is init.at func found))
          (in_inits init has init.at
          (omega (arith, keys.in_init-is init init.at, hits_same init.at))),
      λ k some. in_inits init has k (omega (arith, some, keys.in_init-is init k)),
    )

    default_good : DefaultGood world answers Good word.at
    default_good func found own =
        subst Good (sym (init_key_is word.at func found))
        (good_by word.at
        (omega (
          arith,
          keys.in_decl-Actor word props inits funcs word.at,
          hits_same word.at,
        )))

    prop_good : (prop : PropTree) → Contains props prop → PropGood world answers Good n prop
    unfolding in_option
    prop_good prop has shape there own = (
      in_props prop has prop.word.at
          (omega (arith, keys.in_prop-is prop prop.word.at, hits_same prop.word.at)),
      λ expr is k some. in_props prop has k
          (omega (
            arith,
            some,
            keys.in_prop-is prop k,
            ap (λ value. in_option in_expr value k) is,
          )),
    )

    pub actor_own : AllOwn Good (decl_notes world answers n decl)
    unfolding decl_notes
    actor_own =
        join Good _ _
        (join Good _ _ (props_own world answers Good n props prop_good)
        (inits_own world answers Good word inits (λ none. default_good) init_good))
        (funcs_own world answers Good funcs tree_good)

  -- Where what is noted of each actor is good, what is noted of the program is.
  module _ (Good : ℕ → Type 0) (actors : (n g : ℕ) (word : Name) (props : List PropTree)
      (inits : List InitTree) (funcs : List FuncTree)
      → Stands decls n g (Actor word props inits funcs)
      → AllOwn Good (decl_notes world answers n (Actor word props inits funcs))) where
    -- a function of a type that is no actor
    tree_free : (n g : ℕ) (decl : Decl) (owner : Option ℕ) (isolation : Iso) (tree : FuncTree)
        → Stands decls n g decl
        → Contains (funcs_of known rule n decl) (func_of known rule owner isolation tree)
        → (isolation ≡ iso.Own → ⊥)
        → FuncGood world answers Good tree.word.at tree.body
    tree_free n g decl owner isolation tree stands declared free func found own =
        absurd (free (func_own known rule isolation tree.is_async tree.written
        (sym (declared_iso n g decl stands tree.word.at
        (func_of known rule owner isolation tree) func declared refl found)
        ∙ own_is func.iso own)))

    init_free : (n g : ℕ) (decl : Decl) (word : Name) (isolation : Iso) (init : InitTree)
        → Stands decls n g decl
        → Contains (funcs_of known rule n decl)
        (init_of known (record { at = init.at; id = word.id }) n isolation init.params)
        → (isolation ≡ iso.Own → ⊥) → FuncGood world answers Good init.at init.body
    init_free n g decl word isolation init stands declared free func found own =
        absurd (free (sym (declared_iso n g decl stands init.at
        (init_of known (record { at = init.at; id = word.id }) n isolation init.params) func
        declared refl found) ∙ own_is func.iso own))

    default_free : (n g : ℕ) (decl : Decl) (word : Name) (isolation : Iso)
        → Stands decls n g decl
        → Contains (funcs_of known rule n decl) (init_of known word n isolation [])
        → (isolation ≡ iso.Own → ⊥) → DefaultGood world answers Good word.at
    default_free n g decl word isolation stands declared free func found own =
        absurd (free (sym (declared_iso n g decl stands word.at (init_of known word n isolation [])
        func declared refl found) ∙ own_is func.iso own))

    -- In what is no actor, nothing is isolated to `self`.
    funcs_free : (n g : ℕ) (decl : Decl) (owner : Option ℕ) (isolation : Iso)
        (funcs : List FuncTree) → Stands decls n g decl → (isolation ≡ iso.Own → ⊥)
        → ((tree : FuncTree) → Contains funcs tree
        → Contains (funcs_of known rule n decl) (func_of known rule owner isolation tree))
        → AllOwn Good (flat_map (func_notes world answers) funcs)
    funcs_free n g decl owner isolation funcs stands free declared =
        funcs_own world answers Good funcs (λ tree has.
        tree_free n g decl owner isolation tree stands (declared tree has) free)

    class_shape_free : (shape : Shape) → shape.kind ≡ kinds.Class
        → is_own (shape_iso shape) ≡ true → ⊥
    class_shape_free shape class own =
        actor_iso_free shape.actor
        (subst (λ kind. is_own (kind_iso kind shape.actor) ≡ true) class own)

    class_own : (n g : ℕ) (written : Written) (word : Name) (conforms : Bool)
        (props : List PropTree) (inits : List InitTree) (funcs : List FuncTree)
        → Stands decls n g (Class written word conforms props inits funcs)
        → AllOwn Good
        (decl_notes world answers n (Class written word conforms props inits funcs))
    unfolding decl_notes funcs_of shape_of
    class_own n g written word conforms props inits funcs stands =
        let decl = Class written word conforms props inits funcs in
        let isolation = actor_iso (written_actor known written) in
        let all = inits_of known word n isolation inits in
        let methods = map (func_of known rule (Some n) isolation) funcs in
        join Good _ _
        (join Good _ _
        (props_own world answers Good n props (λ prop has shape there own.
        absurd (class_shape_free shape
        (ap (λ (s : Shape). s.kind) (same_Some shape _
        (sym there ∙ shape_there decls rule world is_world n g decl _ stands refl))) own)))
        (inits_own world answers Good word inits
        (λ none. default_free n g decl word isolation stands
        (Contains-append_left all methods (init_of known word n isolation [])
        (subst (λ these. Contains (inits_of known word n isolation these)
        (init_of known word n isolation [])) (sym none)
        (in_first (init_of known word n isolation []) [])))
        (actor_not_own (written_actor known written)))
        (λ init has. init_free n g decl word isolation init stands
        (Contains-append_left all methods _
        (Contains-append_right
        (if length inits == 0 then init_of known word n isolation [] ∷ [] else [])
        (map (λ (one : InitTree). init_of known (record { at = one.at; id = word.id }) n isolation
        one.params) inits) _
        (in_map (λ (one : InitTree). init_of known (record { at = one.at; id = word.id }) n
        isolation one.params) inits init has)))
        (actor_not_own (written_actor known written)))))
        (funcs_free n g decl (Some n) isolation funcs stands
        (actor_not_own (written_actor known written))
        (λ tree has. Contains-append_right all methods (func_of known rule (Some n) isolation tree)
        (in_map (func_of known rule (Some n) isolation) funcs tree has)))

    global_own : (prop : PropTree) → AllOwn Good (global_notes world answers prop)
    unfolding global_notes
    global_own prop =
        let actor = written_actor world.known.top prop.written in (
          (λ own. absurd (actor_iso_free actor own)),
          join Good _ _
              (getter_own world answers Good prop (actor_iso actor)
              (λ own. absurd (actor_iso_free actor own)))
              (value_own world answers Good (actor_iso actor) None prop.value
              (λ expr is own. absurd (actor_iso_free actor own))),
        )

    decl_own : (n g : ℕ) (decl : Decl) → Stands decls n g decl
        → AllOwn Good (decl_notes world answers n decl)
    unfolding decl_notes funcs_of
    decl_own n g (Entry word written at is_async body) stands =
        body_own world answers Good at body (λ func found own.
        absurd (actor_not_own (written_actor known written)
        (sym (declared_iso n g (Entry word written at is_async body) stands at _ func
        (in_first _ []) refl found) ∙ own_is func.iso own)))
    decl_own n g (Struct word conforms fields funcs) stands =
        funcs_free n g (Struct word conforms fields funcs) (Some n) iso.Free funcs stands (λ is. cc)
        (in_map (func_of known rule (Some n) iso.Free) funcs)
    decl_own n g (Enum word conforms cases funcs) stands =
        funcs_free n g (Enum word conforms cases funcs) (Some n) iso.Free funcs stands (λ is. cc)
        (in_map (func_of known rule (Some n) iso.Free) funcs)
    decl_own n g (Class written word conforms props inits funcs) stands =
        class_own n g written word conforms props inits funcs stands
    decl_own n g (Actor word props inits funcs) stands =
        actors n g word props inits funcs stands
    decl_own n g (GlobalActor word made) stands = tt
    decl_own n g (Func tree) stands =
        body_own world answers Good tree.word.at tree.body
        (tree_free n g (Func tree) None iso.Free tree stands (in_first _ []) (λ is. cc))
    decl_own n g (Global prop) stands = global_own prop

    decls_own : (number index : ℕ) (some : List Decl)
        → ((n g : ℕ) (decl : Decl) → StandsFrom number index some n g decl → Stands decls n g decl)
        → AllOwn Good (notes_from world answers number some)
    decls_own number index [] stand = tt
    decls_own number index (decl ∷ some) stand =
        join Good (decl_notes world answers number decl) _
        (decl_own number index decl (stand number index decl (inl (refl, refl, refl))))
        (decls_own (number + shapes_made decl) (index + globals_made decl) some
        (λ n g one later. stand n g one (inr later)))

    abbrev BodyGood : BodyIso → Type 0
    BodyGood body = is_own body.iso ≡ true → Good body.key

    bodies_good : (notes : List Note) → AllOwn Good notes
        → AllByRecursion BodyGood (bodies_in notes)
    bodies_good [] are = tt
    bodies_good (Body body ∷ notes) are = (are.0, bodies_good notes are.1)
    bodies_good (Kind kinded ∷ notes) are = bodies_good notes are.1
    bodies_good (Refused one ∷ notes) are = bodies_good notes are.1
    bodies_good (Race one ∷ notes) are = bodies_good notes are.1
    bodies_good (Var key ∷ notes) are = bodies_good notes are.1
    bodies_good (Mentioned one ∷ notes) are = bodies_good notes are.1
    bodies_good (Captures held ∷ notes) are = bodies_good notes are.1

    with_good : (list : List BodyIso) (key : ℕ) (body : BodyIso) → AllByRecursion BodyGood list
        → body_with list key ≡ Some body → is_own body.iso ≡ true → Good key
    with_good [] key body are found own = cc
    with_good (one ∷ list) key body are found own =
        by (one.key == key) refl found (λ later. with_good list key body are.1 later own) where
          by : (same : Bool) → (one.key == key) ≡ same
              → (if same then Some one else body_with list key) ≡ Some body
              → (body_with list key ≡ Some body → Good key) → Good key
          by true same is later =
              let here : one.key ≡ key = eqb-true one.key key same in
              let bodies_are : one ≡ body = cc in
              subst Good here
              (are.0 (ap (λ (b : BodyIso). is_own b.iso) bodies_are ∙ own))
          by false same is later = later is

    -- What is found as isolated to `self` is good.
    pub found_good : (key : ℕ) (body : BodyIso)
        → body_with (bodies_in (noted world answers decls)) key ≡ Some body
        → is_own body.iso ≡ true → Good key
    found_good key body found own =
        with_good (bodies_in (noted world answers decls)) key body
        (bodies_good (noted world answers decls) (decls_own 0 0 decls (λ n g decl stands. stands)))
        found own

  -- A body that is found as isolated to `self` has its key in an actor.
  pub own_in_actor : (key : ℕ) (body : BodyIso)
      → body_with (bodies_in (noted world answers decls)) key ≡ Some body
      → is_own body.iso ≡ true → OwnKey decls key
  own_in_actor = found_good (OwnKey decls) actor_own
