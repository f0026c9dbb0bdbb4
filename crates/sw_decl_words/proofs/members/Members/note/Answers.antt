use Rattle.std.proofs.Common.{Some, nat_eq, ◌&&◌, cond, ap, sym, ◌∙◌}
use Rattle.sw_decl_words.specs.Members.{earlier_member, member_at}
use Rattle.sw_decl_words.proofs.MemberLemmas.{noted_same}
use Rattle.sw_decl_words.proofs.members.Members.note.Goals as goal

pub returns : goal.returns
returns c = λ shape word.
    let owned = c.args.owned in
    let key = owned.shape in
    let id = owned.member.word.id in
    let old = c.args.self.now in
    c.in_ok-insert.ensures.updates.0 (record { shape = shape; word = word })
    ∙ ap (λ member. cond (nat_eq key shape && nat_eq id word) (Some member)
    (member_at old shape word))
    (c.earlier-member.ensures ∙ ap (λ first. earlier_member first owned.member) c.get.ensures)
    ∙ noted_same (member_at old) owned.member (member_at old shape word) key id shape word
    (sym c.is_reserved.ensures ∙ c.if-is_reserved.false)
