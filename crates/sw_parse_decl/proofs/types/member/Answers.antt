use Rattle.std.proofs.Common.{sym, subst}
use Rattle.sw_grammar_forms.specs.Outcome.{Gives}
use Rattle.sw_grammar.specs.Reading.{read}
use Rattle.sw_parse_parts.specs.Around.{known}
use Rattle.sw_parse_decl.specs.Kinds.{member_of}
use Rattle.sw_parse_decl.specs.Members.{and_member}
use Rattle.sw_parse_decl.proofs.types.member.Goals as goal

pub returns-in-Struct : goal.returns-in-Struct
returns-in-Struct g c =
    subst (λ kind. Gives (and_member c.args.members (read (known c.args.around.now) c.args.depth
    (member_of (known c.args.around.now) kind)) c.args.tokens.now) c.struct_member.result
    c.struct_member.new.tokens) (sym c.in-Struct.is) c.struct_member.ensures

pub returns-in-Enum : goal.returns-in-Enum
returns-in-Enum g c =
    subst (λ kind. Gives (and_member c.args.members (read (known c.args.around.now) c.args.depth
    (member_of (known c.args.around.now) kind)) c.args.tokens.now) c.enum_member.result
    c.enum_member.new.tokens) (sym c.in-Enum.is) c.enum_member.ensures

pub returns-in-Class : goal.returns-in-Class
returns-in-Class g c =
    subst (λ kind. Gives (and_member c.args.members (read (known c.args.around.now) c.args.depth
    (member_of (known c.args.around.now) kind)) c.args.tokens.now) c.class_member.result
    c.class_member.new.tokens) (sym c.in-Class.is) c.class_member.ensures
