-- How often a thing is said of a key of a program, and how often it is the key of a declared type
-- or of a word that names an enum: as often together as the key stands in the program, at most.
use Rattle.std.proofs.Common.{◌≡◌, ℕ, zero, suc, ◌+◌, ◌≤◌, List, [], ◌∷◌, Option, Some, None, arith}
use Rattle.std.proofs.Common.{ap, map, flat_map, Contains}
use Rattle.sw_tree.specs.Keys.{keys_of}
use Rattle.sw_tree.specs.declared.decl.Decl.{Decl}
use Rattle.sw_tree.specs.declared.decl.Decl.TheVariants.{Entry, Struct, Enum, Class, Actor}
use Rattle.sw_tree.specs.declared.decl.Decl.TheVariants.{GlobalActor, Func, Global}
use Rattle.sw_tree.specs.declared.decl.FuncTree.{FuncTree}
use Rattle.sw_tree.specs.declared.decl.InitTree.{InitTree}
use Rattle.sw_tree.specs.declared.decl.PropTree.{PropTree}
use Rattle.sw_tree.specs.declared.expr.Expr.{Expr}
use Rattle.sw_tree.proofs.Counting.{Weight, count, hits, in_all, in_option, in_all-append}
use Rattle.sw_tree.proofs.Counting.{in_all-cons, in_all-nil, in_all-map, in_all-flat_map}
use Rattle.sw_tree.proofs.KeyCounts as keys
use Rattle.sw_tree.proofs.KeyCounts.{in_expr, in_block, in_func, in_prop, in_init, in_decl}
use Rattle.sw_tree.proofs.KeyCounts.{in_param}
use Rattle.sw_types.specs.Accepts.{is_marked}
use Rattle.sw_types.specs.declared.shape.Shape.{Shape}
use Rattle.sw_decl_words.specs.Evident.{Meanings}
use Rattle.sw_decl_words.specs.Shaped.{prop_type, shape_of, shapes_from}
use Rattle.sw_decl_words.specs.Words.{shapes_made}
use Rattle.sw_typing_rules.specs.Judging.{judge, leave_block}
use Rattle.sw_typing_rules.specs.Programs.{BodyOf, ValueOf, said, said_of_body, said_of_value}
use Rattle.sw_typing_rules.specs.Programs.{bodies_of, bodies_from, values_of, values_from}
use Rattle.sw_typing_rules.specs.Programs.{func_body, init_body, first_value, prop_value}
use Rattle.sw_typing_rules.specs.Programs.{entry_body, params_of, param_var, body_state}
use Rattle.sw_typing_rules.specs.Programs.{value_setting}
use Rattle.sw_typing_rules.specs.Statements.{in_body, body_rows, vars_rows}
use Rattle.sw_typing_rules.specs.Worlds.{World}
use Rattle.sw_typing_rules.specs.declared.row.Row.{Row}
use Rattle.sw_typing_rules.specs.declared.scope.Var.{Var}
use Rattle.sw_typing_rules.proofs.Sound.{judges, leaves_block}
use Rattle.sw_typing_facts.specs.EnumWords as words
use Rattle.sw_typing_facts.proofs.Said.Counts as rows
use Rattle.sw_typing_facts.proofs.Said.Counts.{Counts}
use Rattle.sw_typing_facts.proofs.Said.TreeRows.{block_rows, expr_rows}

-- Two weights of items, together.
module _ {X : Type 0} (w v : X → Weight) where
  abbrev pub by_both : X → Weight
  by_both x k = w x k + v x k

  -- Items weigh no more by one of them,
  pub by_one : (xs : List X) (k : ℕ) → in_all w xs k ≤ in_all by_both xs k
  by_one [] k = omega (arith, in_all-nil w k)
  by_one (x ∷ xs) k =
      omega (arith, in_all-cons w x xs k, in_all-cons by_both x xs k, by_one xs k)

  -- even with what one item weighs by the other.
  pub with_one : (xs : List X) (x : X) (k : ℕ) → Contains xs x
      → in_all w xs k + v x k ≤ in_all by_both xs k
  with_one [] x k has = let lt = has.1 in absurd (omega (arith, lt))
  with_one (first ∷ xs) x k (zero, lt, is) =
      let same = ap (λ one. v one k) is in
      omega (
        arith,
        in_all-cons w first xs k,
        in_all-cons by_both first xs k,
        by_one xs k,
        same,
      )
  with_one (first ∷ xs) x k (suc i, lt, is) =
      omega (
        arith,
        in_all-cons w first xs k,
        in_all-cons by_both first xs k,
        with_one xs x k (i, omega (arith, lt), is),
      )

-- a shape has the key of its declaration
abbrev pub in_shape : Shape → Weight
in_shape shape = hits shape.at

module _ (world : World) where
  -- the words that name enums in a body, and in a first value
  abbrev pub body_words : BodyOf → List ℕ
  body_words body =
      let inside = in_body body.owner body.init in
      words.in_block world inside (body_state world body) body.block
      (leave_block world body.block inside (body_state world body))
      (leaves_block world inside (body_state world body) body.block)

  abbrev pub value_words : ValueOf → List ℕ
  value_words value =
      words.in_expr world (value_setting value) (is_marked value.wanted) value.value
      (judge world value.value (value_setting value) (is_marked value.wanted))
      (judges world (value_setting value) (is_marked value.wanted) value.value)

  -- how often the words stand there
  abbrev pub words_of_body : BodyOf → Weight
  words_of_body body = count (body_words body)

  abbrev pub words_of_value : ValueOf → Weight
  words_of_value value = count (value_words value)

module _ (w : Row → Weight) (counts : Counts w) (world : World) where
  -- how often rows of a body, and of a first value, tell of a key
  abbrev pub said_by_body : BodyOf → Weight
  said_by_body body = in_all w (said_of_body world body)

  abbrev pub said_by_value : ValueOf → Weight
  said_by_value value = in_all w (said_of_value world value)

  -- and with the words in them
  abbrev pub by_body : BodyOf → Weight
  by_body = by_both said_by_body (words_of_body world)

  abbrev pub by_value : ValueOf → Weight
  by_value = by_both said_by_value (words_of_value world)

  -- A body tells of its parameters and of what its block holds.
  body_said : (body : BodyOf) (k : ℕ)
      → by_body body k ≤ in_all in_param body.params k + in_block body.block k
  body_said body k =
      let inside = in_body body.owner body.init in
      let state = body_state world body in
      let l = leave_block world body.block inside state in
      let vars = params_of world body in
      omega (
        arith,
        in_all-append w (vars_rows vars) (body_rows body.at l) k,
        rows.vars w counts vars k,
        in_all-map (λ (one : Var). hits one.at) (param_var world) body.params k,
        rows.body w counts body.at l k,
        block_rows w counts world inside state body.block l
            (leaves_block world inside state body.block) k,
      )

  -- A first value tells of what it holds.
  value_said : (value : ValueOf) (k : ℕ) → by_value value k ≤ in_expr value.value k
  value_said value k =
      let setting = value_setting value in
      let marked = is_marked value.wanted in
      let judged = judge world value.value setting marked in
      omega (
        arith,
        rows.first_given w counts value.at judged value.wanted k,
        expr_rows w counts world setting marked value.value judged
            (judges world setting marked value.value) k,
      )

  -- the members of a declaration
  funcs_said : (owner : Option ℕ) (funcs : List FuncTree) (k : ℕ)
      → in_all by_body (map (func_body world owner) funcs) k ≤ in_all in_func funcs k
  funcs_said owner [] k = omega (arith, in_all-nil by_body k)
  funcs_said owner (func ∷ funcs) k =
      omega (
        arith,
        in_all-cons by_body (func_body world owner func) (map (func_body world owner) funcs) k,
        body_said (func_body world owner func) k,
        funcs_said owner funcs k,
        in_all-cons in_func func funcs k,
        keys.in_func-is func k,
      )

  inits_said : (shape : ℕ) (inits : List InitTree) (k : ℕ)
      → in_all by_body (map (init_body shape) inits) k ≤ in_all in_init inits k
  inits_said shape [] k = omega (arith, in_all-nil by_body k)
  inits_said shape (init ∷ inits) k =
      omega (
        arith,
        in_all-cons by_body (init_body shape init) (map (init_body shape) inits) k,
        body_said (init_body shape init) k,
        inits_said shape inits k,
        in_all-cons in_init init inits k,
        keys.in_init-is init k,
      )

  -- the first values of properties and global variables
  first_said : (owner : Option ℕ) (prop : PropTree) (value : Option Expr) (k : ℕ)
      → in_all by_value (first_value world owner prop value) k ≤ in_option in_expr value k
  unfolding in_option
  first_said owner prop None k = omega (arith, in_all-nil by_value k)
  first_said owner prop (Some value) k =
      let one : ValueOf = record {
        at = prop.word.at;
        owner = owner;
        wanted = prop_type world.known owner prop;
        value = value;
      } in
      omega (
        arith,
        in_all-cons by_value one [] k,
        in_all-nil by_value k,
        value_said one k,
      )

  prop_said : (owner : Option ℕ) (prop : PropTree) (k : ℕ)
      → in_all by_value (prop_value world owner prop) k ≤ in_prop prop k
  prop_said owner prop k =
      omega (arith, first_said owner prop prop.value k, keys.in_prop-is prop k)

  props_said : (owner : Option ℕ) (props : List PropTree) (k : ℕ)
      → in_all by_value (flat_map (prop_value world owner) props) k ≤ in_all in_prop props k
  props_said owner [] k = omega (arith, in_all-nil by_value k)
  props_said owner (prop ∷ props) k =
      omega (
        arith,
        in_all-append by_value (prop_value world owner prop)
            (flat_map (prop_value world owner) props) k,
        prop_said owner prop k,
        props_said owner props k,
        in_all-cons in_prop prop props k,
      )

  -- what is said of a declaration, and the key of its shape
  decl_said : (known : Meanings) (shape : ℕ) (decl : Decl) (k : ℕ)
      → in_all by_body (bodies_of world shape decl) k
      + in_all by_value (values_of world shape decl) k
      + in_all in_shape (shape_of known shape decl) k
      ≤ in_decl decl k
  unfolding in_all bodies_of values_of shape_of
  decl_said known shape (Entry word written at is_async body) k =
      omega (
        arith,
        body_said (entry_body at body) k,
        keys.in_decl-Entry word written at is_async body k,
      )
  decl_said known shape (Struct word conforms fields funcs) k =
      omega (
        arith,
        funcs_said (Some shape) funcs k,
        keys.in_decl-Struct word conforms fields funcs k,
      )
  decl_said known shape (Enum word conforms cases funcs) k =
      omega (
        arith,
        funcs_said (Some shape) funcs k,
        keys.in_decl-Enum word conforms cases funcs k,
      )
  decl_said known shape (Class written word conforms props inits funcs) k =
      omega (
        arith,
        in_all-append by_body (map (init_body shape) inits)
            (map (func_body world (Some shape)) funcs) k,
        inits_said shape inits k,
        funcs_said (Some shape) funcs k,
        props_said (Some shape) props k,
        keys.in_decl-Class written word conforms props inits funcs k,
      )
  decl_said known shape (Actor word props inits funcs) k =
      omega (
        arith,
        in_all-append by_body (map (init_body shape) inits)
            (map (func_body world (Some shape)) funcs) k,
        inits_said shape inits k,
        funcs_said (Some shape) funcs k,
        props_said (Some shape) props k,
        keys.in_decl-Actor word props inits funcs k,
      )
  decl_said known shape (GlobalActor word made) k = omega arith
  decl_said known shape (Func func) k =
      omega (
        arith,
        body_said (func_body world None func) k,
        keys.in_func-is func k,
        keys.in_decl-Func func k,
      )
  decl_said known shape (Global prop) k =
      omega (arith, prop_said None prop k, keys.in_decl-Global prop k)

  -- and so of declarations, numbered from here
  decls_said : (known : Meanings) (shape : ℕ) (decls : List Decl) (k : ℕ)
      → in_all by_body (bodies_from world shape decls) k
      + in_all by_value (values_from world shape decls) k
      + in_all in_shape (shapes_from known shape decls) k
      ≤ in_all in_decl decls k
  decls_said known shape [] k =
      omega (arith, in_all-nil by_body k, in_all-nil by_value k, in_all-nil in_shape k)
  decls_said known shape (decl ∷ decls) k =
      let next = shape + shapes_made decl in
      omega (
        arith,
        in_all-append by_body (bodies_of world shape decl) (bodies_from world next decls) k,
        in_all-append by_value (values_of world shape decl) (values_from world next decls) k,
        in_all-append in_shape (shape_of known shape decl) (shapes_from known next decls) k,
        decl_said known shape decl k,
        decls_said known next decls k,
        in_all-cons in_decl decl decls k,
      )

  -- a program, with the words in it and the keys of its shapes
  pub all_said : (known : Meanings) (decls : List Decl) (k : ℕ)
      → in_all by_body (bodies_from world 0 decls) k + in_all by_value (values_from world 0 decls) k
      + in_all in_shape (shapes_from known 0 decls) k
      ≤ in_all hits (keys_of decls) k
  all_said known decls k =
      omega (arith, decls_said known 0 decls k, keys.in_decls decls k)

  -- what is said of a program is said of its bodies and its first values
  pub said_counts : (decls : List Decl) (k : ℕ)
      → in_all w (said world decls) k
      ≡ in_all said_by_body (bodies_from world 0 decls) k
      + in_all said_by_value (values_from world 0 decls) k
  said_counts decls k =
      let bodies = bodies_from world 0 decls in
      let values = values_from world 0 decls in
      omega (
        arith,
        in_all-append w (flat_map (said_of_body world) bodies)
            (flat_map (said_of_value world) values) k,
        in_all-flat_map w (said_of_body world) bodies k,
        in_all-flat_map w (said_of_value world) values k,
      )
