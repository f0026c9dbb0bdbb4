-- Declarations.
use Rattle.std.specs.Prelude.{ℕ, Bool, true, false, not, Option, Some, None, List, [], ◌∷◌, ◌++◌}
use Rattle.std.specs.Prelude.{codes}
use Rattle.sw_grammar_forms.specs.Sets.{Set, quoted, one_of, word}
use Rattle.sw_grammar_forms.specs.Form.{Shape, solid}
use Rattle.sw_grammar_forms.specs.Form.Form.{done, terminal, either, unless, nest, shaped}
use Rattle.sw_grammar_forms.specs.Terminals.{◌>>=◌, expect, skip, items}
use Rattle.sw_grammar_forms.specs.Quotes.{quote}
use Rattle.sw_tree.specs.declared.name.Name.{Name}
use Rattle.sw_tree.specs.declared.type_tree.TypeTree.{TypeTree}
use Rattle.sw_tree.specs.declared.expr.Expr.{Expr}
use Rattle.sw_tree.specs.declared.decl.Written.{Written}
use Rattle.sw_tree.specs.declared.decl.Written.TheVariants as written
use Rattle.sw_tree.specs.declared.decl.ParamTree.{ParamTree}
use Rattle.sw_tree.specs.declared.decl.PropTree.{PropTree}
use Rattle.sw_tree.specs.declared.decl.InitTree.{InitTree}
use Rattle.sw_tree.specs.declared.decl.FuncTree.{FuncTree}
use Rattle.sw_tree.specs.declared.decl.CaseTree.{CaseTree}
use Rattle.sw_tree.specs.declared.decl.Decl.{Decl}
use Rattle.sw_tree.specs.declared.decl.Decl.TheVariants as decls
use Rattle.sw_grammar.specs.Around.{Around, returning}
use Rattle.sw_grammar.specs.Tokens.{at_word, plain_at_word, type_ext, value_ext, infix_op, an_equals}
use Rattle.sw_grammar.specs.Tokens.{binding_first, name_in, at_in}
use Rattle.sw_grammar.specs.Nests.{in_payload, in_empty, in_params, in_isolation, in_entry}
use Rattle.sw_grammar.specs.Nests.{in_global_actor, in_struct, in_enum, in_class, shape_of, Form}
use Rattle.sw_grammar.specs.Nests.{Main, Member, method_first}
use Rattle.sw_grammar.specs.Nests.Member.{property, initialiser, function, cases}
use Rattle.sw_grammar.specs.Types.{Typed, tree_of, wanted_of, written_type, type, list_of, more_of}
use Rattle.sw_grammar.specs.Exprs.{loose}
use Rattle.sw_grammar.specs.Closures.{signature_ext}
use Rattle.sw_grammar.specs.Values.{value_for}
use Rattle.sw_grammar.specs.Stmts.{block, value, type_if}

-- The members of a type by their kinds.

abbrev pub properties_in : List Member → List PropTree
properties_in [] = []
properties_in (property tree ∷ members) = tree ∷ properties_in members
properties_in (initialiser tree ∷ members) = properties_in members
properties_in (function tree ∷ members) = properties_in members
properties_in (cases trees ∷ members) = properties_in members

abbrev pub initialisers_in : List Member → List InitTree
initialisers_in [] = []
initialisers_in (property tree ∷ members) = initialisers_in members
initialisers_in (initialiser tree ∷ members) = tree ∷ initialisers_in members
initialisers_in (function tree ∷ members) = initialisers_in members
initialisers_in (cases trees ∷ members) = initialisers_in members

abbrev pub functions_in : List Member → List FuncTree
functions_in [] = []
functions_in (property tree ∷ members) = functions_in members
functions_in (initialiser tree ∷ members) = functions_in members
functions_in (function tree ∷ members) = tree ∷ functions_in members
functions_in (cases trees ∷ members) = functions_in members

abbrev pub cases_in : List Member → List CaseTree
cases_in [] = []
cases_in (property tree ∷ members) = cases_in members
cases_in (initialiser tree ∷ members) = cases_in members
cases_in (function tree ∷ members) = cases_in members
cases_in (cases trees ∷ members) = trees ++ cases_in members

-- whether the isolation that is written asks for "async"
abbrev pub needs_async : Written → Bool
needs_async written.Absent = false
needs_async (written.At name) = false
needs_async written.Nonisolated = false
needs_async written.Concurrent = true
needs_async written.Nonsending = true

-- the same as `loose`, where the short spelling has a token
abbrev pub wanted : Set → Set → Shape
wanted first ext = record {
  nullable = true;
  first = first;
  ext = ext;
  ok = true;
  bare = false;
  height = 0;
  begins_line = true;
  stays_on_line = true;
}

-- a property or a variable without annotation
abbrev pub property_of : Bool → Name → Option TypeTree → Option Expr → PropTree
property_of mutable word ty value =
    record { written = written.Absent; mutable = mutable; word = word; ty = ty; value = value }

-- what a declaration goes on with after an attribute
abbrev pub annotated_first : Set
annotated_first = quoted (codes "final") ++ quoted (codes "func") ++ binding_first

-- what a declaration begins with
abbrev pub decl_first : Set
decl_first =
    quoted (codes "@main") ++ quoted (codes "@globalActor") ++ plain_at_word
    ++ one_of (codes "nonisolated" ∷ codes "@concurrent" ∷ codes "struct" ∷ codes "enum"
    ∷ codes "actor" ∷ []) ++ annotated_first

module _ (around : Around) where
  unfoldable pub declared : Form (solid word [] 0) Name
  declared = shaped _ (do
    name ← terminal (name_in around word (codes "print"))
    done name)

  -- "nonsending" ")"
  unfoldable pub isolation_inside : Form (shape_of in_isolation) ℕ
  isolation_inside = shaped _ (do
    at ← expect (codes "nonsending")
    _ ← expect (codes ")")
    done at)

  -- "nonisolated" ["(" "nonsending" ")"]
  unfoldable pub nonisolated : Form
      (solid (quoted (codes "nonisolated")) (quoted (codes "(")) 0) Written
  nonisolated = shaped _ (do
    _ ← expect (codes "nonisolated")
    either (do
      _ ← nest (quote (codes "(")) in_isolation
      done written.Nonsending) (done written.Nonisolated))

  -- "@concurrent" ["nonisolated"]
  unfoldable pub concurrent : Form
      (solid (quoted (codes "@concurrent")) (quoted (codes "nonisolated")) 0) Written
  concurrent = shaped _ (do
    _ ← expect (codes "@concurrent")
    _ ← skip (codes "nonisolated")
    done written.Concurrent)

  -- ["async"], which must come where the isolation asks for it
  unfoldable pub async_if : Written
      → Form (wanted (quoted (codes "async")) (quoted (codes "async"))) Bool
  async_if isolation = shaped _
      (unless (not (needs_async isolation)) (expect (codes "async") >>= λ _. done true)
      (done false))

  -- ":" ["sending"] ["@escaping"] type
  unfoldable pub param_type : Option Name → Name
      → Form (solid (quoted (codes ":")) type_ext 0) ParamTree
  param_type label name = shaped _ (do
    _ ← expect (codes ":")
    sending ← skip (codes "sending")
    _ ← skip (codes "@escaping")
    ty ← type around
    done (record { label = label; name = name; sending = sending; ty = ty }))

  -- [Word|"_"] Word ":" ["sending"] ["@escaping"] type
  unfoldable pub param : Form (solid (word ++ quoted (codes "_")) type_ext 0) ParamTree
  param = shaped _ (either (do
    first ← declared
    either (do
      name ← declared
      param_type (Some first) name) (param_type (Some first) first)) (do
        _ ← expect (codes "_")
        name ← declared
        param_type None name))

  -- [param {"," param}] ")"
  unfoldable pub params_inside : Form (shape_of in_params) (List ParamTree)
  params_inside = shaped _ (list_of around (codes ")") param)

  unfoldable pub params : Form (solid (quoted (codes "(")) [] 1) (List ParamTree)
  params = shaped _ (do
    inside ← nest (quote (codes "(")) in_params
    done inside.1)

  -- ["->" ["sending"] type]
  unfoldable pub sent_result : Form (loose (quoted (codes "->")) signature_ext)
      (Bool × Option Typed)
  sent_result = shaped _ (either (do
    _ ← expect (codes "->")
    sends ← skip (codes "sending")
    ty ← written_type around
    done (sends, Some ty)) (done (false, None)))

  -- "func" Word params ["async"] ["->" ["sending"] type] block, after the isolation that is written
  unfoldable pub func_after : Written → Form (solid (quoted (codes "func")) [] 1) FuncTree
  func_after isolation = shaped _ (do
    _ ← expect (codes "func")
    name ← declared
    given ← params
    is_async ← async_if isolation
    result ← sent_result
    body ← block (returning around (wanted_of result.1))
    done (record {
      written = isolation;
      word = name;
      params = given;
      is_async = is_async;
      sends = result.0;
      result = tree_of result.1;
      body = body;
    }))

  -- a function of a type
  unfoldable pub method : Form (solid method_first [] 1) FuncTree
  method = shaped _ (either (do
    mark ← terminal (at_in around at_word (codes "@Sendable"))
    func_after (written.At mark)) (either (nonisolated >>= func_after)
      (either (concurrent >>= func_after) (func_after written.Absent))))

  unfoldable pub method_member : Form (solid method_first [] 1) Member
  method_member = shaped _ (do
    tree ← method
    done (function tree))

  -- "=" value | nothing
  unfoldable pub value_if : Option (List ℕ)
      → Form (loose (infix_op (codes "=")) (infix_op (codes "=") ++ value_ext)) (Option Expr)
  value_if wanted = shaped _ (either (do
    given ← value_for around wanted
    done (Some given.value)) (done None))

  -- Word ":" type
  unfoldable pub field_after : Bool → Form (solid word type_ext 0) Member
  field_after mutable = shaped _ (do
    name ← declared
    _ ← expect (codes ":")
    ty ← type around
    done (property (property_of mutable name (Some ty) None)))

  unfoldable pub field : Form (solid binding_first type_ext 0) Member
  field = shaped _ (either (expect (codes "let") >>= λ _. field_after false)
      (expect (codes "var") >>= λ _. field_after true))

  abbrev property_ext : Set
  property_ext = type_ext ++ infix_op (codes "=") ++ value_ext

  -- Word ( ":" type ["=" value] | "=" expr )
  unfoldable pub prop_after : Bool → Form (solid word property_ext 0) Member
  prop_after mutable = shaped _ (do
    name ← declared
    either (do
      _ ← expect (codes ":")
      ty ← written_type around
      given ← value_if ty.wanted
      done (property (property_of mutable name (Some ty.tree) given))) (do
        given ← value around
        done (property (property_of mutable name None (Some given)))))

  unfoldable pub prop : Form (solid binding_first property_ext 0) Member
  prop = shaped _ (either (expect (codes "let") >>= λ _. prop_after false)
      (expect (codes "var") >>= λ _. prop_after true))

  -- "init" params block
  unfoldable pub init : Form (solid (quoted (codes "init")) [] 1) Member
  init = shaped _ (do
    at ← expect (codes "init")
    given ← params
    body ← block around
    done (initialiser (record { at = at; params = given; body = body })))

  -- Word ["(" type {"," type} ")"]
  unfoldable pub enum_case : Form (solid word (quoted (codes "(")) 0) CaseTree
  enum_case = shaped _ (do
    name ← declared
    either (do
      inside ← nest (quote (codes "(")) in_payload
      done (record { word = name; types = inside.1 })) (done (record { word = name; types = [] })))

  -- "case" ecase {"," ecase}
  unfoldable pub enum_cases : Form
      (solid (quoted (codes "case")) (quoted (codes "(") ++ quoted (codes ",")) 0) Member
  enum_cases = shaped _ (do
    _ ← expect (codes "case")
    first ← enum_case
    all ← more_of around (first ∷ []) enum_case
    done (cases all))

  -- [":" "Sendable"]
  unfoldable pub conforms : Form (loose (quoted (codes ":")) (quoted (codes ":"))) Bool
  conforms = shaped _ (either (do
    _ ← expect (codes ":")
    _ ← expect (codes "Sendable")
    done true) (done false))

  -- members and "}"
  unfoldable pub struct_inside : Form (shape_of in_struct) (List Member)
  struct_inside = shaped _ (do
    read ← items (either field method_member)
    _ ← expect (codes "}")
    done read.0)

  unfoldable pub enum_inside : Form (shape_of in_enum) (List Member)
  enum_inside = shaped _ (do
    read ← items (either enum_cases method_member)
    _ ← expect (codes "}")
    done read.0)

  unfoldable pub class_inside : Form (shape_of in_class) (List Member)
  class_inside = shaped _ (do
    read ← items (either prop (either init method_member))
    _ ← expect (codes "}")
    done read.0)

  -- [iso] "static" "func" "main" "(" ")" ["async"] block, which is a member, and "}"
  unfoldable pub entry_inside : Form (shape_of in_entry) Main
  entry_inside = shaped _ (do
    isolation ← either (do
      mark ← terminal (at_in around at_word (codes "@Sendable"))
      done (written.At mark))
        (either (expect (codes "nonisolated") >>= λ _. done written.Nonisolated)
        (done written.Absent))
    _ ← expect (codes "static")
    _ ← expect (codes "func")
    at ← expect (codes "main")
    _ ← nest (quote (codes "(")) in_empty
    is_async ← skip (codes "async")
    body ← block around
    _ ← skip (codes ";")
    _ ← expect (codes "}")
    done (record { written = isolation; at = at; is_async = is_async; body = body }))

  -- "static" "let" "shared" "=" Word "(" ")", which is a member, and "}"
  unfoldable pub global_actor_inside : Form (shape_of in_global_actor) Name
  global_actor_inside = shaped _ (do
    _ ← expect (codes "static")
    _ ← expect (codes "let")
    _ ← expect (codes "shared")
    _ ← terminal an_equals
    name ← declared
    _ ← nest (quote (codes "(")) in_empty
    _ ← skip (codes ";")
    _ ← expect (codes "}")
    done name)

  -- "struct" Word "{" .. "}", after "@main"
  unfoldable pub entry : Form (solid (quoted (codes "struct")) [] 2) Decl
  entry = shaped _ (do
    _ ← expect (codes "struct")
    name ← declared
    inside ← nest (quote (codes "{")) in_entry
    done (decls.Entry name inside.1.written inside.1.at inside.1.is_async inside.1.body))

  -- "actor" Word "{" .. "}", after "@globalActor"
  unfoldable pub global_actor : Form (solid (quoted (codes "actor")) [] 2) Decl
  global_actor = shaped _ (do
    _ ← expect (codes "actor")
    name ← declared
    made ← nest (quote (codes "{")) in_global_actor
    done (decls.GlobalActor name made.1))

  unfoldable pub struct_decl : Form (solid (quoted (codes "struct")) [] 1) Decl
  struct_decl = shaped _ (do
    _ ← expect (codes "struct")
    name ← declared
    sendable ← conforms
    members ← nest (quote (codes "{")) in_struct
    done (decls.Struct name sendable (properties_in members.1) (functions_in members.1)))

  unfoldable pub enum_decl : Form (solid (quoted (codes "enum")) [] 1) Decl
  enum_decl = shaped _ (do
    _ ← expect (codes "enum")
    name ← declared
    sendable ← conforms
    members ← nest (quote (codes "{")) in_enum
    done (decls.Enum name sendable (cases_in members.1) (functions_in members.1)))

  unfoldable pub actor_decl : Form (solid (quoted (codes "actor")) [] 1) Decl
  actor_decl = shaped _ (do
    _ ← expect (codes "actor")
    name ← declared
    members ← nest (quote (codes "{")) in_class
    done (decls.Actor name (properties_in members.1) (initialisers_in members.1)
        (functions_in members.1)))

  -- "final" "class" Word [":" "Sendable"] "{" .. "}"
  unfoldable pub class_after : Written → Form (solid (quoted (codes "final")) [] 1) Decl
  class_after isolation = shaped _ (do
    _ ← expect (codes "final")
    _ ← expect (codes "class")
    name ← declared
    sendable ← conforms
    members ← nest (quote (codes "{")) in_class
    done (decls.Class isolation name sendable (properties_in members.1)
        (initialisers_in members.1) (functions_in members.1)))

  unfoldable pub func_decl : Written → Form (solid (quoted (codes "func")) [] 1) Decl
  func_decl isolation = shaped _ (do
    tree ← func_after isolation
    done (decls.Func tree))

  -- Word [":" type] "=" value
  unfoldable pub global_value : Written → Bool → Form (solid word value_ext 0) Decl
  global_value isolation mutable = shaped _ (do
    name ← declared
    ty ← type_if around
    given ← value_for around (wanted_of ty)
    done (decls.Global (record {
      written = isolation;
      mutable = mutable;
      word = name;
      ty = tree_of ty;
      value = Some given.value;
    })))

  unfoldable pub global_after : Written → Form (solid binding_first value_ext 0) Decl
  global_after isolation = shaped _
      (either (expect (codes "let") >>= λ _. global_value isolation false)
      (expect (codes "var") >>= λ _. global_value isolation true))

  -- a class, a function or a global, after its annotation
  unfoldable pub annotated : Written → Form (solid annotated_first value_ext 0) Decl
  annotated isolation = shaped _ (either (class_after isolation) (either (func_decl isolation)
      (global_after isolation)))

  unfoldable pub decl : Form (solid decl_first value_ext 0) Decl
  decl = shaped _ (either (do
    mark ← terminal (at_in around (quoted (codes "@main")) (codes "@main"))
    either entry (annotated (written.At mark))) (either (do
      mark ← terminal (at_in around (quoted (codes "@globalActor")) (codes "@globalActor"))
      either global_actor (annotated (written.At mark))) (either (do
        mark ← terminal (at_in around plain_at_word (codes "@Sendable"))
        annotated (written.At mark)) (either (nonisolated >>= func_decl)
      (either (concurrent >>= func_decl)
      (either struct_decl (either enum_decl (either actor_decl (annotated written.Absent)))))))))

  -- { decl }
  unfoldable pub program : Form (loose decl_first (value_ext ++ quoted (codes ";") ++ decl_first))
      (List Decl)
  program = shaped _ (do
    read ← items decl
    done read.0)
