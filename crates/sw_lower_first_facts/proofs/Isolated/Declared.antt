-- No body that is noted of a declaration has a key that is not among the declaration's; and what is
-- noted of a global variable by its own key is isolated to no actor or to a global actor.
use Rattle.std.proofs.Common.{◌≡◌, ℕ, ◌+◌, ◌≤◌, false, ◌&&◌, List, [], ◌∷◌, ◌++◌}
use Rattle.std.proofs.Common.{flat_map, Option, None, Some, option_map, unwrap_or, inl, inr, refl}
use Rattle.std.proofs.Common.{ap, sym, subst, ◌∙◌, arith}
use Rattle.std.specs.Prelude.{slice_get}
use Rattle.sw_tree.specs.Keys.{Keys, block_keys, decl_keys, expr_keys, func_keys, init_keys}
use Rattle.sw_tree.specs.Keys.{params_keys, prop_keys}
use Rattle.sw_tree.specs.declared.decl.Decl.{Decl}
use Rattle.sw_tree.specs.declared.decl.Decl.TheVariants.{Entry, Struct, Enum, Class, Actor}
use Rattle.sw_tree.specs.declared.decl.Decl.TheVariants.{GlobalActor, Func, Global}
use Rattle.sw_tree.specs.declared.decl.FuncTree.{FuncTree}
use Rattle.sw_tree.specs.declared.decl.InitTree.{InitTree}
use Rattle.sw_tree.specs.declared.decl.PropTree.{PropTree}
use Rattle.sw_tree.specs.declared.expr.Expr.{Expr}
use Rattle.sw_tree.specs.declared.name.Name.{Name}
use Rattle.sw_tree.specs.declared.stmt.Block.{Block}
use Rattle.sw_tree.proofs.Counting.{count, hits, in_all-append, in_all-cons}
use Rattle.sw_tree.proofs.KeyEquations as keys
use Rattle.sw_types.specs.declared.isolation.Iso.{Iso}
use Rattle.sw_types.specs.declared.shape.Shape.{Shape}
use Rattle.sw_decl_words.specs.Shaped.{written_actor}
use Rattle.sw_decl_words.specs.Words.{shapes_made}
use Rattle.sw_decls.specs.Signatures.{actor_iso}
use Rattle.sw_decls.specs.declared.signature.AsyncDefault.{AsyncDefault}
use Rattle.sw_decls.specs.declared.signature.Signature.{Signature}
use Rattle.sw_typing_rules.specs.Worlds.{IsWorldOf, World}
use Rattle.sw_isolation_rules.specs.Answers.{Answers, for_some}
use Rattle.sw_isolation_rules.specs.Kinds.{is_isolated, shape_iso}
use Rattle.sw_isolation_rules.specs.Noting.{body_note}
use Rattle.sw_isolation_rules.specs.Programs.{body_notes, context_of, decl_notes, declared_body}
use Rattle.sw_isolation_rules.specs.Programs.{default_notes, func_at, func_context, func_note}
use Rattle.sw_isolation_rules.specs.Programs.{func_notes, getter_notes, global_notes, init_notes}
use Rattle.sw_isolation_rules.specs.Programs.{inits_notes, notes_from, prop_notes, shape_prop}
use Rattle.sw_isolation_rules.specs.Programs.{value_notes}
use Rattle.sw_isolation_rules.specs.declared.note.BodyIso.{BodyIso}
use Rattle.sw_isolation_rules.specs.declared.note.Note.{Note}
use Rattle.sw_decl_words.specs.Words.{globals_made}
use Rattle.sw_typing_facts.proofs.Programs.Standing.{StandsFrom}
use Rattle.sw_lower_total_facts.proofs.Programs.Found.{key_found}
use Rattle.sw_lower_total_facts.proofs.Standing.Declared.{inner_keys, keys_split, words_of}
use Rattle.sw_lower_first_facts.specs.Isolated.{BodiesAre}
use Rattle.sw_lower_first_facts.proofs.Isolated.Noting.{bodies_join, one_of}
use Rattle.sw_lower_first_facts.proofs.Isolated.Trees.{block_apart, expr_apart}

module _ (P : BodyIso → Type 0) (key : ℕ)
    (other : (body : BodyIso) → hits body.key key ≡ 0 → P body)
    (decls : List Decl) (rule : AsyncDefault) (world : World) (is : IsWorldOf decls rule world)
    (answers : Answers) where
  -- what is made of each item of a list
  each_apart : {X : Type 0} (notes_of : X → List Note) (keys_of : X → Keys)
      → ((x : X) → count (keys_of x) key ≡ 0 → BodiesAre P (notes_of x)) → (xs : List X)
      → count (flat_map keys_of xs) key ≡ 0 → BodiesAre P (flat_map notes_of xs)
  each_apart notes_of keys_of apart [] none = tt
  each_apart notes_of keys_of apart (x ∷ xs) none =
      let split = in_all-append hits (keys_of x) (flat_map keys_of xs) key in
      bodies_join P (notes_of x) (flat_map notes_of xs) (apart x (omega (arith, none, split)))
      (each_apart notes_of keys_of apart xs (omega (arith, none, split)))

  found_apart : (at : ℕ) (body : Block) (found : Option Signature)
      → func_at world answers at ≡ found → hits at key ≡ 0 → count (block_keys body) key ≡ 0
      → BodiesAre P (for_some found (declared_body world answers body))
  found_apart at body None there apart none = tt
  found_apart at body (Some func) there apart none = (
    other _ (ap (λ own. hits own key) (key_found decls rule world is answers at func there)
        ∙ apart),
    block_apart P key other world answers body none (func_context func) [],
  )

  body_apart : (at : ℕ) (body : Block) → hits at key ≡ 0 → count (block_keys body) key ≡ 0
      → BodiesAre P (body_notes world answers at body)
  unfolding body_notes
  body_apart at body apart none =
      found_apart at body (func_at world answers at) refl apart none

  func_apart : (func : FuncTree) → count (func_keys func) key ≡ 0
      → BodiesAre P (func_notes world answers func)
  func_apart func none =
      let own = ap (λ list. count list key) (keys.func_keys-is func) in
      let first = in_all-cons hits func.word.at (params_keys func.params ++ block_keys func.body)
      key in
      let split = in_all-append hits (params_keys func.params) (block_keys func.body) key in
      body_apart func.word.at func.body (omega (arith, none, own, first, split))
      (omega (arith, none, own, first, split))

  init_apart : (init : InitTree) → count (init_keys init) key ≡ 0
      → BodiesAre P (init_notes world answers init)
  init_apart init none =
      let own = ap (λ list. count list key) (keys.init_keys-is init) in
      let first = in_all-cons hits init.at (params_keys init.params ++ block_keys init.body) key in
      let split = in_all-append hits (params_keys init.params) (block_keys init.body) key in
      body_apart init.at init.body (omega (arith, none, own, first, split))
      (omega (arith, none, own, first, split))

  default_found : (at : ℕ) (found : Option Signature) → func_at world answers at ≡ found
      → hits at key ≡ 0
      → BodiesAre P (for_some found (λ func. func_note func ∷ []))
  default_found at None there apart = tt
  default_found at (Some func) there apart = (
    other _ (ap (λ own. hits own key) (key_found decls rule world is answers at func there)
        ∙ apart),
    tt,
  )

  default_apart : (at : ℕ) → hits at key ≡ 0 → BodiesAre P (default_notes world answers at)
  unfolding default_notes
  default_apart at apart = default_found at (func_at world answers at) refl apart

  inits_apart : (word : Name) (inits : List InitTree) → hits word.at key ≡ 0
      → count (flat_map init_keys inits) key ≡ 0
      → BodiesAre P (inits_notes world answers word inits)
  inits_apart word [] apart none = default_apart word.at apart
  inits_apart word (init ∷ inits) apart none =
      each_apart (init_notes world answers) init_keys init_apart (init ∷ inits) none

  abbrev pub value_keys : Option Expr → Keys
  value_keys value = unwrap_or (option_map expr_keys value) []

  value_apart : (iso : Iso) (owner : Option ℕ) (value : Option Expr)
      → count (value_keys value) key ≡ 0 → BodiesAre P (value_notes world answers iso owner value)
  value_apart iso owner None none = tt
  value_apart iso owner (Some value) none =
      expr_apart P key other world answers value none (context_of iso false owner) []

  getter_noted : (prop : PropTree) (iso : Iso)
      → P (record { key = prop.word.at; iso = iso; is_async = false })
      → BodiesAre P (getter_notes prop iso)
  getter_noted prop iso holds =
      one_of P (prop.mutable && is_isolated iso) (body_note prop.word.at iso false ∷ []) []
      (holds, tt) tt

  shaped_apart : (number : ℕ) (prop : PropTree) (found : Option Shape) → hits prop.word.at key ≡ 0
      → count (value_keys prop.value) key ≡ 0
      → BodiesAre P (for_some found (shape_prop world answers number prop))
  shaped_apart number prop None apart none = tt
  shaped_apart number prop (Some shape) apart none =
      bodies_join P (getter_notes prop (shape_iso shape)) _
      (getter_noted prop (shape_iso shape) (other _ apart))
      (value_apart (shape_iso shape) (Some number) prop.value none)

  pub prop_split : (prop : PropTree)
      → count (prop_keys prop) key ≡ hits prop.word.at key + count (value_keys prop.value) key
  prop_split prop =
      omega (
        arith,
        ap (λ list. count list key) (keys.prop_keys-is prop),
        in_all-cons hits prop.word.at (value_keys prop.value) key,
      )

  prop_apart : (number : ℕ) (prop : PropTree) → count (prop_keys prop) key ≡ 0
      → BodiesAre P (prop_notes world answers number prop)
  unfolding prop_notes
  prop_apart number prop none =
      shaped_apart number prop (slice_get world.shapes number)
      (omega (arith, none, prop_split prop)) (omega (arith, none, prop_split prop))

  abbrev pub global_iso : PropTree → Iso
  global_iso prop = actor_iso (written_actor world.known.top prop.written)

  -- a global variable, whose own bodies are so
  pub global_noted : (prop : PropTree)
      → P (record { key = prop.word.at; iso = global_iso prop; is_async = false })
      → count (value_keys prop.value) key ≡ 0 → BodiesAre P (global_notes world answers prop)
  unfolding global_notes
  global_noted prop holds none = (
    holds,
    bodies_join P (getter_notes prop (global_iso prop)) _
        (getter_noted prop (global_iso prop) holds)
        (value_apart (global_iso prop) None prop.value none),
  )

  type_apart : (number : ℕ) (word : Name) (props : List PropTree) (inits : List InitTree)
      (funcs : List FuncTree) → hits word.at key ≡ 0
      → count (flat_map prop_keys props ++ flat_map init_keys inits ++ flat_map func_keys funcs) key
      ≡ 0
      → BodiesAre P (flat_map (prop_notes world answers number) props
      ++ inits_notes world answers word inits ++ flat_map (func_notes world answers) funcs)
  type_apart number word props inits funcs apart none =
      let split = in_all-append hits (flat_map prop_keys props ++ flat_map init_keys inits)
      (flat_map func_keys funcs) key in
      let parts = in_all-append hits (flat_map prop_keys props) (flat_map init_keys inits) key in
      bodies_join P _ _
      (bodies_join P _ _
      (each_apart (prop_notes world answers number) prop_keys (prop_apart number) props
      (omega (arith, none, split, parts)))
      (inits_apart word inits apart (omega (arith, none, split, parts))))
      (each_apart (func_notes world answers) func_keys func_apart funcs
      (omega (arith, none, split)))

  inner_apart : (number : ℕ) (decl : Decl) → count (words_of decl) key ≡ 0
      → count (inner_keys decl) key ≡ 0 → BodiesAre P (decl_notes world answers number decl)
  unfolding decl_notes
  inner_apart number (Entry word written at is_async body) apart none =
      let split = in_all-cons hits at (block_keys body) key in
      body_apart at body (omega (arith, none, split)) (omega (arith, none, split))
  inner_apart number (Struct word conforms fields funcs) apart none =
      each_apart (func_notes world answers) func_keys func_apart funcs
      (omega (
        arith,
        none,
        in_all-append hits (flat_map prop_keys fields) (flat_map func_keys funcs) key,
      ))
  inner_apart number (Enum word conforms cases funcs) apart none =
      each_apart (func_notes world answers) func_keys func_apart funcs none
  inner_apart number (Class written word conforms props inits funcs) apart none =
      type_apart number word props inits funcs
      (omega (arith, apart, in_all-cons hits word.at [] key)) none
  inner_apart number (Actor word props inits funcs) apart none =
      type_apart number word props inits funcs
      (omega (arith, apart, in_all-cons hits word.at [] key)) none
  inner_apart number (GlobalActor word made) apart none = tt
  inner_apart number (Func func) apart none = func_apart func none
  inner_apart number (Global prop) apart none =
      global_noted prop (other _ (omega (arith, none, prop_split prop)))
      (omega (arith, none, prop_split prop))

  decl_apart : (number : ℕ) (decl : Decl) → count (decl_keys decl) key ≡ 0
      → BodiesAre P (decl_notes world answers number decl)
  decl_apart number decl none =
      let own = ap (λ list. count list key) (keys_split decl) in
      let split = in_all-append hits (words_of decl) (inner_keys decl) key in
      inner_apart number decl (omega (arith, none, own, split)) (omega (arith, none, own, split))

  from_apart : (number : ℕ) (more : List Decl) → count (flat_map decl_keys more) key ≡ 0
      → BodiesAre P (notes_from world answers number more)
  from_apart number [] none = tt
  from_apart number (first ∷ more) none =
      let split = in_all-append hits (decl_keys first) (flat_map decl_keys more) key in
      bodies_join P (decl_notes world answers number first) _
      (decl_apart number first (omega (arith, none, split)))
      (from_apart (number + shapes_made first) more (omega (arith, none, split)))

  pub decl_counts : (number index : ℕ) (more : List Decl) (n g : ℕ) (decl : Decl)
      → StandsFrom number index more n g decl
      → count (decl_keys decl) key ≤ count (flat_map decl_keys more) key
  decl_counts number index [] n g decl stands = absurd stands
  decl_counts number index (first ∷ more) n g decl (inl (_, _, same)) =
      omega (
        arith,
        in_all-append hits (decl_keys first) (flat_map decl_keys more) key,
        ap (λ one. count (decl_keys one) key) same,
      )
  decl_counts number index (first ∷ more) n g decl (inr later) =
      omega (
        arith,
        in_all-append hits (decl_keys first) (flat_map decl_keys more) key,
        decl_counts (number + shapes_made first) (index + globals_made first) more n g decl later,
      )

  -- Where one declaration alone has the key, and its bodies are so, all bodies are.
  pub from_noted : (number index : ℕ) (more : List Decl) (n g : ℕ) (decl : Decl)
      → StandsFrom number index more n g decl → count (flat_map decl_keys more) key ≤ 1
      → 1 ≤ count (decl_keys decl) key
      → ((m : ℕ) → BodiesAre P (decl_notes world answers m decl))
      → BodiesAre P (notes_from world answers number more)
  from_noted number index [] n g decl stands once some holds = absurd stands
  from_noted number index (first ∷ more) n g decl (inl (_, _, same)) once some holds =
      let split = in_all-append hits (decl_keys first) (flat_map decl_keys more) key in
      bodies_join P (decl_notes world answers number first) _
      (subst (λ one. BodiesAre P (decl_notes world answers number one)) (sym same) (holds number))
      (from_apart (number + shapes_made first) more
      (omega (arith, once, some, split, ap (λ one. count (decl_keys one) key) same)))
  from_noted number index (first ∷ more) n g decl (inr later) once some holds =
      let split = in_all-append hits (decl_keys first) (flat_map decl_keys more) key in
      let within = decl_counts (number + shapes_made first) (index + globals_made first) more n g
      decl later in
      bodies_join P (decl_notes world answers number first) _
      (decl_apart number first (omega (arith, once, some, split, within)))
      (from_noted (number + shapes_made first) (index + globals_made first) more n g decl later
      (omega (arith, once, split)) some holds)
