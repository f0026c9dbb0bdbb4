-- The members of each kind of type.
use Rattle.std.specs.Prelude.{ℕ, Bool, List, [], ◌++◌, codes}
use Rattle.sw_grammar_forms.specs.Form.{Shape, alt, solid}
use Rattle.sw_grammar_forms.specs.Form.Form.{either, more_items}
use Rattle.sw_grammar_forms.specs.Reader.{Reader, then_read, pure}
use Rattle.sw_grammar_forms.specs.Sets.{Set, quoted}
use Rattle.sw_grammar_forms.specs.Terminals.{items}
use Rattle.sw_grammar.specs.Around.{Around}
use Rattle.sw_grammar.specs.Nests.{Form, Member, method_first}
use Rattle.sw_grammar.specs.Tokens.{binding_first, type_ext, value_ext, infix_op}
use Rattle.sw_grammar.specs.Decls.{field, prop, init, enum_cases, method_member}
use Rattle.sw_grammar.specs.Reading.{read}
use Rattle.sw_parse_decl.specs.declared.kinds.TypeKind.{TypeKind}
use Rattle.sw_parse_decl.specs.declared.kinds.TypeKind.TheVariants as kinds

-- what a type of this kind may have
abbrev pub member_shape : TypeKind → Shape
member_shape kinds.Struct = alt (solid binding_first type_ext 0) (solid method_first [] 1)
member_shape kinds.Enum =
    alt (solid (quoted (codes "case")) (quoted (codes "(") ++ quoted (codes ",")) 0)
    (solid method_first [] 1)
member_shape kinds.Class =
    alt (solid binding_first (type_ext ++ infix_op (codes "=") ++ value_ext) 0)
    (alt (solid (quoted (codes "init")) [] 1) (solid method_first [] 1))

abbrev pub member_of : (around : Around) (kind : TypeKind) → Form (member_shape kind) Member
member_of around kinds.Struct = either (field around) (method_member around)
member_of around kinds.Enum = either (enum_cases around) (method_member around)
member_of around kinds.Class =
    either (prop around) (either (init around) (method_member around))

-- what such members begin with
abbrev pub member_first : TypeKind → Set
member_first kind = (member_shape kind).first

-- reads such members, up to a token that begins none
abbrev pub members_of : Around → ℕ → TypeKind → Reader (List Member)
members_of around depth kind =
    then_read (read around depth (items (member_of around kind))) (λ state. pure state.0)

-- the answer of all members, of which some are read
abbrev pub rest_of : Around → ℕ → TypeKind → List Member × Bool → Reader (List Member × Bool)
rest_of around depth kind state = read around depth (more_items state (member_of around kind))
