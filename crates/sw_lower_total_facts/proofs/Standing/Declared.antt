-- What is noted of a declaration is of its own keys; of the keys of a member it is what is noted of
-- the member.
use Rattle.std.proofs.Common.{◌≡◌, ℕ, ◌≤◌, Bool, true, false, cond, ◌&&◌, List, [], ◌∷◌, ◌++◌}
use Rattle.std.proofs.Common.{flat_map, Option, None, Some, option_map, unwrap_or, Contains, inl}
use Rattle.std.proofs.Common.{inr, refl, ap, subst, ◌∙◌, arith}
use Rattle.std.specs.Prelude.{slice_get}
use Rattle.std.proofs.lemmas.List.Elements.{Contains-append_cases}
use Rattle.sw_list.proofs.Members.{none_in}
use Rattle.sw_tree.specs.Keys.{Keys, block_keys, decl_keys, expr_keys, func_keys, init_keys}
use Rattle.sw_tree.specs.Keys.{params_keys, prop_keys}
use Rattle.sw_tree.specs.declared.decl.Decl.{Decl}
use Rattle.sw_tree.specs.declared.decl.Decl.TheVariants.{Entry, Struct, Enum, Class, Actor}
use Rattle.sw_tree.specs.declared.decl.Decl.TheVariants.{GlobalActor, Func, Global}
use Rattle.sw_tree.specs.declared.decl.FuncTree.{FuncTree}
use Rattle.sw_tree.specs.declared.decl.InitTree.{InitTree}
use Rattle.sw_tree.specs.declared.decl.PropTree.{PropTree}
use Rattle.sw_tree.specs.declared.decl.Written.{Written}
use Rattle.sw_tree.specs.declared.expr.Expr.{Expr}
use Rattle.sw_tree.specs.declared.name.Name.{Name}
use Rattle.sw_tree.specs.declared.stmt.Block.{Block}
use Rattle.sw_tree.proofs.Counting.{count, hits, in_all-append, in_all-cons}
use Rattle.sw_tree.proofs.KeyEquations as keys
use Rattle.sw_types.specs.declared.isolation.Iso.{Iso}
use Rattle.sw_types.specs.declared.shape.Shape.{Shape}
use Rattle.sw_decl_words.specs.Shaped.{written_actor}
use Rattle.sw_decls.specs.Signatures.{actor_iso}
use Rattle.sw_decls.specs.declared.signature.Signature.{Signature}
use Rattle.sw_typing_rules.specs.Worlds.{World}
use Rattle.sw_isolation_rules.specs.Answers.{Answers, for_some}
use Rattle.sw_isolation_rules.specs.Kinds.{is_isolated, shape_iso}
use Rattle.sw_isolation_rules.specs.Noting.{block_notes, body_note, see}
use Rattle.sw_isolation_rules.specs.Programs.{body_notes, context_of, decl_notes, declared_body}
use Rattle.sw_isolation_rules.specs.Programs.{default_notes, func_at, func_context, func_note}
use Rattle.sw_isolation_rules.specs.Programs.{func_notes, getter_notes, global_notes, init_notes}
use Rattle.sw_isolation_rules.specs.Programs.{inits_notes, prop_notes, shape_prop, value_notes}
use Rattle.sw_isolation_rules.specs.declared.note.Note.{Note}
use Rattle.sw_typing_facts.proofs.Lists.Listed.{only_in}
use Rattle.sw_typing_facts.proofs.Programs.DeclParts.{funcs_in, inits_in, props_in}
use Rattle.sw_lower_total_facts.proofs.Standing.Covering.{Covers, block_covers, expr_covers}
use Rattle.sw_lower_total_facts.proofs.Standing.Noting.{AreBare, alike_body, bare_lacks, bare_nothing}
use Rattle.sw_lower_total_facts.proofs.Standing.Noting.{lacks_alike, lacks_join, lacks_nothing}
use Rattle.sw_lower_total_facts.proofs.Standing.Parts.{IsShare, share_bare, share_body, share_by}
use Rattle.sw_lower_total_facts.proofs.Standing.Parts.{share_fewer, share_left, share_next, share_right}
use Rattle.sw_lower_total_facts.proofs.Standing.Parts.{share_same, share_then}

-- the word of a type, and the other keys of a declaration
abbrev pub words_of : Decl → Keys
words_of (Entry word written at is_async body) = []
words_of (Struct word conforms fields funcs) = word.at ∷ []
words_of (Enum word conforms cases funcs) = word.at ∷ []
words_of (Class written word conforms props inits funcs) = word.at ∷ []
words_of (Actor word props inits funcs) = word.at ∷ []
words_of (GlobalActor word made) = []
words_of (Func func) = []
words_of (Global prop) = []

abbrev pub inner_keys : Decl → Keys
inner_keys (Entry word written at is_async body) = at ∷ block_keys body
inner_keys (Struct word conforms fields funcs) =
    flat_map prop_keys fields ++ flat_map func_keys funcs
inner_keys (Enum word conforms cases funcs) = flat_map func_keys funcs
inner_keys (Class written word conforms props inits funcs) =
    flat_map prop_keys props ++ flat_map init_keys inits ++ flat_map func_keys funcs
inner_keys (Actor word props inits funcs) =
    flat_map prop_keys props ++ flat_map init_keys inits ++ flat_map func_keys funcs
inner_keys (GlobalActor word made) = word.at ∷ []
inner_keys (Func func) = func_keys func
inner_keys (Global prop) = prop_keys prop

pub keys_split : (decl : Decl) → decl_keys decl ≡ words_of decl ++ inner_keys decl
unfolding decl_keys
keys_split (Entry word written at is_async body) = refl
keys_split (Struct word conforms fields funcs) = refl
keys_split (Enum word conforms cases funcs) = refl
keys_split (Class written word conforms props inits funcs) = refl
keys_split (Actor word props inits funcs) = refl
keys_split (GlobalActor word made) = refl
keys_split (Func func) = refl
keys_split (Global prop) = refl

-- Notes of things in a list.
module _ {X : Type 0} (notes_of : X → List Note) (keys_of : X → Keys)
    (covers : (x : X) → Covers (notes_of x) (keys_of x)) where
  pub each_covers : (xs : List X) → Covers (flat_map notes_of xs) (flat_map keys_of xs)
  each_covers [] key none = lacks_nothing key
  each_covers (x ∷ xs) key none =
      let split = in_all-append hits (keys_of x) (flat_map keys_of xs) key in
      lacks_join (notes_of x) (flat_map notes_of xs) key (covers x key (omega (arith, none, split)))
      (each_covers xs key (omega (arith, none, split)))

  pub each_share : (xs : List X) (x : X) → Contains xs x
      → IsShare (flat_map notes_of xs) (flat_map keys_of xs) (notes_of x) (keys_of x)
  each_share [] x has = absurd (none_in x has)
  each_share (first ∷ xs) x has = elim (Contains-append_cases (first ∷ []) xs x has) [
    | inl here ↦ subst (λ one. IsShare (flat_map notes_of (first ∷ xs))
        (flat_map keys_of (first ∷ xs)) (notes_of one) (keys_of one)) (only_in first x here)
        (share_left (notes_of first) (flat_map notes_of xs) (keys_of first)
        (flat_map keys_of xs) (each_covers xs))
    | inr there ↦ share_then _ _ (flat_map notes_of xs) (flat_map keys_of xs) _ _
        (share_right (notes_of first) (flat_map notes_of xs) (keys_of first)
        (flat_map keys_of xs) (covers first)) (each_share xs x there)
  ]

module _ (world : World) (answers : Answers) where
  -- a body
  found_body : (body : Block) (found : Option Signature)
      → Covers (for_some found (declared_body world answers body)) (block_keys body)
  found_body body None key none = lacks_nothing key
  found_body body (Some func) key none =
      lacks_alike key _ _ (alike_body key _ _)
      (block_covers world answers body (func_context func) [] key none)

  pub body_covers : (at : ℕ) (body : Block)
      → Covers (body_notes world answers at body) (block_keys body)
  unfolding body_notes
  body_covers at body = found_body body (func_at world answers at)

  pub body_share : (at : ℕ) (body : Block) (func : Signature)
      → func_at world answers at ≡ Some func
      → IsShare (body_notes world answers at body) (block_keys body)
      (block_notes world answers body (func_context func) []) (block_keys body)
  unfolding body_notes
  body_share at body func found =
      share_by _ _ _ _ _ _ (ap (λ one. for_some one (declared_body world answers body)) found) refl
      (share_body _ _ (block_keys body))

  -- a function and an initialiser, with more keys
  pub func_covers : (func : FuncTree) → Covers (func_notes world answers func) (func_keys func)
  func_covers func key none =
      body_covers func.word.at func.body key
      (omega (
        arith,
        none,
        ap (λ list. count list key) (keys.func_keys-is func),
        in_all-append hits (func.word.at ∷ params_keys func.params) (block_keys func.body) key,
      ))

  pub func_share : (tree : FuncTree) (func : Signature)
      → func_at world answers tree.word.at ≡ Some func
      → IsShare (func_notes world answers tree) (func_keys tree)
      (block_notes world answers tree.body (func_context func) []) (block_keys tree.body)
  func_share tree func found =
      share_then _ _ _ _ _ _
      (share_fewer (func_notes world answers tree) (func_keys tree) (block_keys tree.body)
      (λ key. omega (
        arith,
        ap (λ list. count list key) (keys.func_keys-is tree),
        in_all-append hits (tree.word.at ∷ params_keys tree.params) (block_keys tree.body) key,
      )))
      (body_share tree.word.at tree.body func found)

  pub init_covers : (init : InitTree) → Covers (init_notes world answers init) (init_keys init)
  init_covers init key none =
      body_covers init.at init.body key
      (omega (
        arith,
        none,
        ap (λ list. count list key) (keys.init_keys-is init),
        in_all-append hits (init.at ∷ params_keys init.params) (block_keys init.body) key,
      ))

  pub init_share : (init : InitTree) (func : Signature)
      → func_at world answers init.at ≡ Some func
      → IsShare (init_notes world answers init) (init_keys init)
      (block_notes world answers init.body (func_context func) []) (block_keys init.body)
  init_share init func found =
      share_then _ _ _ _ _ _
      (share_fewer (init_notes world answers init) (init_keys init) (block_keys init.body)
      (λ key. omega (
        arith,
        ap (λ list. count list key) (keys.init_keys-is init),
        in_all-append hits (init.at ∷ params_keys init.params) (block_keys init.body) key,
      )))
      (body_share init.at init.body func found)

  -- the initialisers of a type
  bare_default : (found : Option Signature)
      → AreBare (for_some found (λ func. func_note func ∷ []))
  bare_default None = bare_nothing
  bare_default (Some func) = record { kinds = refl; held = refl; vars = refl }

  bare_defaults : (at : ℕ) → AreBare (default_notes world answers at)
  unfolding default_notes
  bare_defaults at = bare_default (func_at world answers at)

  pub inits_cover : (word : Name) (inits : List InitTree)
      → Covers (inits_notes world answers word inits) (flat_map init_keys inits)
  inits_cover word [] = λ key none. bare_lacks _ key (bare_defaults word.at)
  inits_cover word (init ∷ inits) =
      each_covers (init_notes world answers) init_keys init_covers (init ∷ inits)

  pub inits_share : (word : Name) (inits : List InitTree) (init : InitTree) → Contains inits init
      → IsShare (inits_notes world answers word inits) (flat_map init_keys inits)
      (init_notes world answers init) (init_keys init)
  inits_share word [] init has = absurd (none_in init has)
  inits_share word (first ∷ inits) init has =
      each_share (init_notes world answers) init_keys init_covers (first ∷ inits) init has

  -- a first value
  abbrev value_keys : Option Expr → Keys
  value_keys value = unwrap_or (option_map expr_keys value) []

  value_covers : (iso : Iso) (owner : Option ℕ) (value : Option Expr)
      → Covers (value_notes world answers iso owner value) (value_keys value)
  value_covers iso owner None key none = lacks_nothing key
  value_covers iso owner (Some value) key none =
      expr_covers world answers value (context_of iso false owner) [] key none

  bare_getter : (is : Bool) (note : Note) → AreBare (note ∷ []) → AreBare (cond is (note ∷ []) [])
  bare_getter true note bare = bare
  bare_getter false note bare = bare_nothing

  bare_getters : (prop : PropTree) (iso : Iso) → AreBare (getter_notes prop iso)
  bare_getters prop iso =
      bare_getter (prop.mutable && is_isolated iso) _
      (record { kinds = refl; held = refl; vars = refl })

  -- the first value of a property, and of a global variable
  shaped_covers : (number : ℕ) (prop : PropTree) (found : Option Shape)
      → Covers (for_some found (shape_prop world answers number prop)) (value_keys prop.value)
  shaped_covers number prop None key none = lacks_nothing key
  shaped_covers number prop (Some shape) key none =
      lacks_join (getter_notes prop (shape_iso shape)) _ key
      (bare_lacks _ key (bare_getters prop (shape_iso shape)))
      (value_covers (shape_iso shape) (Some number) prop.value key none)

  more_prop : (prop : PropTree) (key : ℕ)
      → count (value_keys prop.value) key ≤ count (prop_keys prop) key
  more_prop prop key =
      omega (
        arith,
        ap (λ list. count list key) (keys.prop_keys-is prop),
        in_all-cons hits prop.word.at (value_keys prop.value) key,
      )

  pub prop_covers : (number : ℕ) (prop : PropTree)
      → Covers (prop_notes world answers number prop) (prop_keys prop)
  unfolding prop_notes
  prop_covers number prop key none =
      shaped_covers number prop (slice_get world.shapes number) key
      (omega (arith, none, more_prop prop key))

  pub prop_share : (number : ℕ) (prop : PropTree) (shape : Shape) (value : Expr)
      → slice_get world.shapes number ≡ Some shape → prop.value ≡ Some value
      → IsShare (prop_notes world answers number prop) (prop_keys prop)
      ((see world answers value).notes (context_of (shape_iso shape) false (Some number)) [])
      (expr_keys value)
  unfolding prop_notes
  prop_share number prop shape value there is =
      share_then _ _ _ _ _ _
      (share_fewer (prop_notes world answers number prop) (prop_keys prop) (value_keys prop.value)
      (more_prop prop))
      (share_by _ _ _ _ _ _
      (ap (λ one. for_some one (shape_prop world answers number prop)) there
      ∙ ap (λ one. getter_notes prop (shape_iso shape)
      ++ value_notes world answers (shape_iso shape) (Some number) one) is)
      (ap value_keys is)
      (share_bare (getter_notes prop (shape_iso shape)) _ (expr_keys value)
      (bare_getters prop (shape_iso shape))))

  abbrev pub global_iso : PropTree → Iso
  global_iso prop = actor_iso (written_actor world.known.top prop.written)

  pub global_covers : (prop : PropTree) → Covers (global_notes world answers prop) (prop_keys prop)
  unfolding global_notes
  global_covers prop key none =
      lacks_join
      (body_note prop.word.at (global_iso prop) false ∷ getter_notes prop (global_iso prop)) _ key
      (lacks_alike key _ _ (alike_body key _ _)
      (bare_lacks _ key (bare_getters prop (global_iso prop))))
      (value_covers (global_iso prop) None prop.value key (omega (arith, none, more_prop prop key)))

  pub global_share : (prop : PropTree) (value : Expr) → prop.value ≡ Some value
      → IsShare (global_notes world answers prop) (prop_keys prop)
      ((see world answers value).notes (context_of (global_iso prop) false None) [])
      (expr_keys value)
  unfolding global_notes
  global_share prop value is =
      share_then _ _ _ _ _ _
      (share_fewer (global_notes world answers prop) (prop_keys prop) (value_keys prop.value)
      (more_prop prop))
      (share_by _ _ _ _ _ _
      (ap (λ one. body_note prop.word.at (global_iso prop) false
      ∷ getter_notes prop (global_iso prop)
      ++ value_notes world answers (global_iso prop) None one) is)
      (ap value_keys is)
      (share_then _ _ _ _ _ _ (share_body _ _ _)
      (share_bare (getter_notes prop (global_iso prop)) _ (expr_keys value)
      (bare_getters prop (global_iso prop)))))

  -- What is noted of a declaration is of its keys, but for the word of a type.
  type_covers : (number : ℕ) (word : Name) (props : List PropTree) (inits : List InitTree)
      (funcs : List FuncTree)
      → Covers (flat_map (prop_notes world answers number) props
      ++ inits_notes world answers word inits ++ flat_map (func_notes world answers) funcs)
      (flat_map prop_keys props ++ flat_map init_keys inits ++ flat_map func_keys funcs)
  type_covers number word props inits funcs key none =
      let split = in_all-append hits (flat_map prop_keys props ++ flat_map init_keys inits)
      (flat_map func_keys funcs) key in
      let parts = in_all-append hits (flat_map prop_keys props) (flat_map init_keys inits) key in
      lacks_join _ _ key
      (lacks_join _ _ key
      (each_covers (prop_notes world answers number) prop_keys (prop_covers number) props key
      (omega (arith, none, split, parts)))
      (inits_cover word inits key (omega (arith, none, split, parts))))
      (each_covers (func_notes world answers) func_keys func_covers funcs key
      (omega (arith, none, split)))

  pub inner_covers : (number : ℕ) (decl : Decl)
      → Covers (decl_notes world answers number decl) (inner_keys decl)
  unfolding decl_notes
  inner_covers number (Entry word written at is_async body) = λ key none.
      body_covers at body key (omega (arith, none, in_all-cons hits at (block_keys body) key))
  inner_covers number (Struct word conforms fields funcs) = λ key none.
      each_covers (func_notes world answers) func_keys func_covers funcs key
      (omega (
        arith,
        none,
        in_all-append hits (flat_map prop_keys fields) (flat_map func_keys funcs) key,
      ))
  inner_covers number (Enum word conforms cases funcs) =
      each_covers (func_notes world answers) func_keys func_covers funcs
  inner_covers number (Class written word conforms props inits funcs) =
      type_covers number word props inits funcs
  inner_covers number (Actor word props inits funcs) = type_covers number word props inits funcs
  inner_covers number (GlobalActor word made) = λ key none. lacks_nothing key
  inner_covers number (Func func) = func_covers func
  inner_covers number (Global prop) = global_covers prop

  pub decl_covers : (number : ℕ) (decl : Decl)
      → Covers (decl_notes world answers number decl) (decl_keys decl)
  decl_covers number decl key none =
      inner_covers number decl key
      (omega (
        arith,
        none,
        ap (λ list. count list key) (keys_split decl),
        in_all-append hits (words_of decl) (inner_keys decl) key,
      ))

  -- a declaration by its keys without the word of a type
  inner_share : (number : ℕ) (decl : Decl)
      → IsShare (decl_notes world answers number decl) (decl_keys decl)
      (decl_notes world answers number decl) (inner_keys decl)
  inner_share number decl =
      share_fewer _ _ _ (λ key. omega (
        arith,
        ap (λ list. count list key) (keys_split decl),
        in_all-append hits (words_of decl) (inner_keys decl) key,
      ))

  -- the functions of a type are a share of it
  funcs_last : (number : ℕ) (word : Name) (props : List PropTree) (inits : List InitTree)
      (funcs : List FuncTree)
      → IsShare (flat_map (prop_notes world answers number) props
      ++ inits_notes world answers word inits ++ flat_map (func_notes world answers) funcs)
      (flat_map prop_keys props ++ flat_map init_keys inits ++ flat_map func_keys funcs)
      (flat_map (func_notes world answers) funcs) (flat_map func_keys funcs)
  funcs_last number word props inits funcs =
      share_right _ _ (flat_map prop_keys props ++ flat_map init_keys inits) _ (λ key none.
      let split = in_all-append hits (flat_map prop_keys props) (flat_map init_keys inits) key in
      lacks_join _ _ key
      (each_covers (prop_notes world answers number) prop_keys (prop_covers number) props key
      (omega (arith, none, split)))
      (inits_cover word inits key (omega (arith, none, split))))

  first_share : (number : ℕ) (word : Name) (props : List PropTree) (inits : List InitTree)
      (funcs : List FuncTree)
      → IsShare (flat_map (prop_notes world answers number) props
      ++ inits_notes world answers word inits ++ flat_map (func_notes world answers) funcs)
      (flat_map prop_keys props ++ flat_map init_keys inits ++ flat_map func_keys funcs)
      (flat_map (prop_notes world answers number) props ++ inits_notes world answers word inits)
      (flat_map prop_keys props ++ flat_map init_keys inits)
  first_share number word props inits funcs =
      share_left _ _ _ (flat_map func_keys funcs)
      (each_covers (func_notes world answers) func_keys func_covers funcs)

  inits_last : (number : ℕ) (word : Name) (props : List PropTree) (inits : List InitTree)
      (funcs : List FuncTree)
      → IsShare (flat_map (prop_notes world answers number) props
      ++ inits_notes world answers word inits ++ flat_map (func_notes world answers) funcs)
      (flat_map prop_keys props ++ flat_map init_keys inits ++ flat_map func_keys funcs)
      (inits_notes world answers word inits) (flat_map init_keys inits)
  inits_last number word props inits funcs =
      share_then _ _ _ _ _ _ (first_share number word props inits funcs)
      (share_right _ _ (flat_map prop_keys props) _
      (each_covers (prop_notes world answers number) prop_keys (prop_covers number) props))

  props_first : (number : ℕ) (word : Name) (props : List PropTree) (inits : List InitTree)
      (funcs : List FuncTree)
      → IsShare (flat_map (prop_notes world answers number) props
      ++ inits_notes world answers word inits ++ flat_map (func_notes world answers) funcs)
      (flat_map prop_keys props ++ flat_map init_keys inits ++ flat_map func_keys funcs)
      (flat_map (prop_notes world answers number) props) (flat_map prop_keys props)
  props_first number word props inits funcs =
      share_then _ _ _ _ _ _ (first_share number word props inits funcs)
      (share_left _ _ _ (flat_map init_keys inits) (inits_cover word inits))

  funcs_inner : (number : ℕ) (decl : Decl) (tree : FuncTree) → Contains (funcs_in decl) tree
      → IsShare (decl_notes world answers number decl) (inner_keys decl)
      (func_notes world answers tree) (func_keys tree)
  unfolding decl_notes
  funcs_inner number (Entry word written at is_async body) tree has = absurd (none_in tree has)
  funcs_inner number (Struct word conforms fields funcs) tree has =
      share_then _ _ _ _ _ _
      (share_fewer _ _ (flat_map func_keys funcs) (λ key. omega (
        arith,
        in_all-append hits (flat_map prop_keys fields) (flat_map func_keys funcs) key,
      )))
      (each_share (func_notes world answers) func_keys func_covers funcs tree has)
  funcs_inner number (Enum word conforms cases funcs) tree has =
      each_share (func_notes world answers) func_keys func_covers funcs tree has
  funcs_inner number (Class written word conforms props inits funcs) tree has =
      share_then _ _ _ _ _ _ (funcs_last number word props inits funcs)
      (each_share (func_notes world answers) func_keys func_covers funcs tree has)
  funcs_inner number (Actor word props inits funcs) tree has =
      share_then _ _ _ _ _ _ (funcs_last number word props inits funcs)
      (each_share (func_notes world answers) func_keys func_covers funcs tree has)
  funcs_inner number (GlobalActor word made) tree has = absurd (none_in tree has)
  funcs_inner number (Func func) tree has =
      subst (λ one. IsShare (func_notes world answers func) (func_keys func)
      (func_notes world answers one) (func_keys one)) (only_in func tree has) (share_same _ _)
  funcs_inner number (Global prop) tree has = absurd (none_in tree has)

  inits_inner : (number : ℕ) (decl : Decl) (init : InitTree) → Contains (inits_in decl) init
      → IsShare (decl_notes world answers number decl) (inner_keys decl)
      (init_notes world answers init) (init_keys init)
  unfolding decl_notes
  inits_inner number (Entry word written at is_async body) init has = absurd (none_in init has)
  inits_inner number (Struct word conforms fields funcs) init has = absurd (none_in init has)
  inits_inner number (Enum word conforms cases funcs) init has = absurd (none_in init has)
  inits_inner number (Class written word conforms props inits funcs) init has =
      share_then _ _ _ _ _ _ (inits_last number word props inits funcs)
      (inits_share word inits init has)
  inits_inner number (Actor word props inits funcs) init has =
      share_then _ _ _ _ _ _ (inits_last number word props inits funcs)
      (inits_share word inits init has)
  inits_inner number (GlobalActor word made) init has = absurd (none_in init has)
  inits_inner number (Func func) init has = absurd (none_in init has)
  inits_inner number (Global prop) init has = absurd (none_in init has)

  props_inner : (number : ℕ) (decl : Decl) (prop : PropTree) → Contains (props_in decl) prop
      → IsShare (decl_notes world answers number decl) (inner_keys decl)
      (prop_notes world answers number prop) (prop_keys prop)
  unfolding decl_notes
  props_inner number (Entry word written at is_async body) prop has = absurd (none_in prop has)
  props_inner number (Struct word conforms fields funcs) prop has = absurd (none_in prop has)
  props_inner number (Enum word conforms cases funcs) prop has = absurd (none_in prop has)
  props_inner number (Class written word conforms props inits funcs) prop has =
      share_then _ _ _ _ _ _ (props_first number word props inits funcs)
      (each_share (prop_notes world answers number) prop_keys (prop_covers number) props prop has)
  props_inner number (Actor word props inits funcs) prop has =
      share_then _ _ _ _ _ _ (props_first number word props inits funcs)
      (each_share (prop_notes world answers number) prop_keys (prop_covers number) props prop has)
  props_inner number (GlobalActor word made) prop has = absurd (none_in prop has)
  props_inner number (Func func) prop has = absurd (none_in prop has)
  props_inner number (Global global) prop has = absurd (none_in prop has)

  -- The members of a declaration are shares of it.
  pub decl_func : (number : ℕ) (decl : Decl) (tree : FuncTree) → Contains (funcs_in decl) tree
      → IsShare (decl_notes world answers number decl) (decl_keys decl)
      (func_notes world answers tree) (func_keys tree)
  decl_func number decl tree has =
      share_then _ _ _ _ _ _ (inner_share number decl) (funcs_inner number decl tree has)

  pub decl_init : (number : ℕ) (decl : Decl) (init : InitTree) → Contains (inits_in decl) init
      → IsShare (decl_notes world answers number decl) (decl_keys decl)
      (init_notes world answers init) (init_keys init)
  decl_init number decl init has =
      share_then _ _ _ _ _ _ (inner_share number decl) (inits_inner number decl init has)

  pub decl_prop : (number : ℕ) (decl : Decl) (prop : PropTree) → Contains (props_in decl) prop
      → IsShare (decl_notes world answers number decl) (decl_keys decl)
      (prop_notes world answers number prop) (prop_keys prop)
  decl_prop number decl prop has =
      share_then _ _ _ _ _ _ (inner_share number decl) (props_inner number decl prop has)

  -- an entry and a global variable
  pub decl_entry : (number : ℕ) (word : Name) (written : Written) (at : ℕ) (is_async : Bool)
      (body : Block)
      → IsShare (decl_notes world answers number (Entry word written at is_async body))
      (decl_keys (Entry word written at is_async body)) (body_notes world answers at body)
      (block_keys body)
  unfolding decl_notes decl_keys
  decl_entry number word written at is_async body =
      share_next at (body_notes world answers at body) (block_keys body)

  pub decl_global : (number : ℕ) (prop : PropTree)
      → IsShare (decl_notes world answers number (Global prop)) (decl_keys (Global prop))
      (global_notes world answers prop) (prop_keys prop)
  unfolding decl_notes decl_keys
  decl_global number prop = share_same (global_notes world answers prop) (prop_keys prop)
