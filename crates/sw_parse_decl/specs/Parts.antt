-- Parts of the rule of declarations that are functions of their own.
use Rattle.std.specs.Prelude.{ℕ, Bool, Option, List, [], codes}
use Rattle.sw_grammar_forms.specs.Sets.{quoted}
use Rattle.sw_grammar_forms.specs.Form.{Shape, alt, one, seq, solid}
use Rattle.sw_grammar_forms.specs.Form.Form.{terminal, either, more_items}
use Rattle.sw_grammar_forms.specs.Reader.{Reader, then_read, pure}
use Rattle.sw_grammar_forms.specs.Terminals.{◌>>=◌, items}
use Rattle.sw_tree.specs.declared.expr.Expr.{Expr}
use Rattle.sw_tree.specs.declared.decl.Decl.{Decl}
use Rattle.sw_tree.specs.declared.decl.Written.TheVariants as written
use Rattle.sw_grammar.specs.Around.{Around}
use Rattle.sw_grammar.specs.Nests.{Form}
use Rattle.sw_grammar.specs.Tokens.{at_in, value_ext}
use Rattle.sw_grammar.specs.Decls.{annotated_first, entry, global_actor, annotated, nonisolated}
use Rattle.sw_grammar.specs.Decls.{concurrent, func_decl, struct_decl, enum_decl, actor_decl, decl}
use Rattle.sw_grammar.specs.Values.{value_for}
use Rattle.sw_grammar.specs.Reading.{read}
use Rattle.sw_parse_parts.specs.Nested.{made}

abbrev pub annotated_shape : Shape
annotated_shape = solid annotated_first value_ext 0

-- a declaration with the attribute `@main`
abbrev pub after_main : (around : Around)
    → Form (seq (one (at_in around (quoted (codes "@main")) (codes "@main")))
    (alt (solid (quoted (codes "struct")) [] 2) annotated_shape)) Decl
after_main around = do
  mark ← terminal (at_in around (quoted (codes "@main")) (codes "@main"))
  either (entry around) (annotated around (written.At mark))

-- a declaration with the attribute `@globalActor`
abbrev pub after_global_actor : (around : Around)
    → Form (seq (one (at_in around (quoted (codes "@globalActor")) (codes "@globalActor")))
    (alt (solid (quoted (codes "actor")) [] 2) annotated_shape)) Decl
after_global_actor around = do
  mark ← terminal (at_in around (quoted (codes "@globalActor")) (codes "@globalActor"))
  either (global_actor around) (annotated around (written.At mark))

abbrev func_shape : Shape
func_shape = solid (quoted (codes "func")) [] 1

-- a declaration without an attribute that names an actor
abbrev pub other_decl : (around : Around)
    → Form (alt (seq (solid (quoted (codes "nonisolated")) (quoted (codes "(")) 0) func_shape)
    (alt (seq (solid (quoted (codes "@concurrent")) (quoted (codes "nonisolated")) 0) func_shape)
    (alt (solid (quoted (codes "struct")) [] 1) (alt (solid (quoted (codes "enum")) [] 1)
    (alt (solid (quoted (codes "actor")) [] 1) annotated_shape))))) Decl
other_decl around =
    either (nonisolated around >>= func_decl around) (either (concurrent around >>= func_decl
    around)
    (either (struct_decl around) (either (enum_decl around) (either (actor_decl around)
    (annotated around written.Absent)))))

-- reads `=` and a value, where a `T?` may be wanted of a word `T`
abbrev pub given_value : Around → ℕ → Option (List ℕ) → Reader Expr
given_value around depth wanted =
    made (λ given. given.value) (read around depth (value_for around wanted))

-- reads declarations, up to a token that begins none
abbrev pub decls_of : Around → ℕ → Reader (List Decl)
decls_of around depth = then_read (read around depth (items (decl around))) (λ state. pure state.0)

-- the answer of all declarations, of which some are read
abbrev pub rest_of : Around → ℕ → List Decl × Bool → Reader (List Decl × Bool)
rest_of around depth state = read around depth (more_items state (decl around))
