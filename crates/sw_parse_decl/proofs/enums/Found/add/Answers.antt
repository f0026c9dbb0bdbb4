use Rattle.std.proofs.Common.{map, refl, ◌∙◌, ap}
use Rattle.sw_grammar.specs.Around.{index_in}
use Rattle.sw_parse_decl.proofs.EnumSteps.{seen_before, seen_first, found_before, found_first}
use Rattle.sw_parse_decl.proofs.EnumSteps.{made_enum}
use Rattle.sw_parse_decl.proofs.enums.Found.add.Goals as goal

pub returns-in_ok-push : goal.returns-in_ok-push
returns-in_ok-push c written all one so_far word mark =
    let first = seen_first (λ t. t.now) c.args.word.text c.args.self.now.texts.keys all so_far.texts
    _ c.in_ok-insert.ensures.added c.if-branch.true in
    found_first (index_in c.args.around.now.texts) written all one c.args.self.now
    (record { decls = c.push.new.self; texts = c.insert.new.self }) so_far c.args.word.text.now
    word.0 first.0 c.in_ok-enum_of.field-0
    (made_enum (index_in c.args.around.now.texts) one c.args.word c.args.mark_at
    c.in_ok-enum_of.field-0 word mark c.in_ok-enum_of.ensures)
    c.in_ok-push.ensures.items
    (ap (λ keys. map (λ t. t.now) keys) c.in_ok-insert.ensures.keys ∙ first.1)

pub returns-else-branch : goal.returns-else-branch
returns-else-branch c written all one so_far word mark =
    let before = seen_before (λ t. t.now) c.args.word.text c.args.self.now.texts.keys all
    so_far.texts _ c.in_ok-insert.ensures.added c.if-branch.false in
    found_before (index_in c.args.around.now.texts) written all one c.args.self.now
    (record { decls = c.args.self.now.decls; texts = c.insert.new.self }) so_far
    c.args.word.text.now word.0 before.0 refl
    (ap (λ keys. map (λ t. t.now) keys) c.in_ok-insert.ensures.keys ∙ before.1)
