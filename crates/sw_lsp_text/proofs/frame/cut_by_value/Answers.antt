use Rattle.std.proofs.Common.{option_map, sym, ap, ◌∙◌}
use Rattle.sw_lsp_text.specs.Frames.{cut_by_number, cut_by_value}
use Rattle.sw_lsp_text.specs.Header.{number_in}
use Rattle.sw_lsp_text.proofs.Heads.{capped_from, partial, too_long, whole}
use Rattle.sw_lsp_text.proofs.frame.cut_by_value.Goals as goal

pub returns-then-body-gt-BODY_LIMIT-clause-cut : goal.returns-then-body-gt-BODY_LIMIT-clause-cut
returns-then-body-gt-BODY_LIMIT-clause-cut c =
    let h = capped_from (number_in c.in-Some.value.now) c.in-Some-number_in.number c.in-Some-number_in.ensures in
    too_long c.args.len c.args.header h.0 c.in-Some-number_in.number h.2 c.if-body-gt-BODY_LIMIT.true
    ∙ sym (ap (cut_by_number c.args.len c.args.header) h.1)
    ∙ sym (ap (λ v. cut_by_value c.args.len c.args.header (option_map (λ x. x.now) v)) c.in-Some.is)

pub returns-then-body-len-clause-cut : goal.returns-then-body-len-clause-cut
returns-then-body-len-clause-cut c =
    let h = capped_from (number_in c.in-Some.value.now) c.in-Some-number_in.number c.in-Some-number_in.ensures in
    partial c.args.len c.args.header h.0 c.in-Some-number_in.number h.2 c.if-body-gt-BODY_LIMIT.false c.requires
    c.if-body-len.true
    ∙ sym (ap (cut_by_number c.args.len c.args.header) h.1)
    ∙ sym (ap (λ v. cut_by_value c.args.len c.args.header (option_map (λ x. x.now) v)) c.in-Some.is)

pub returns-clause-cut : goal.returns-clause-cut
returns-clause-cut c =
    let h = capped_from (number_in c.in-Some.value.now) c.in-Some-number_in.number c.in-Some-number_in.ensures in
    whole c.args.len c.args.header h.0 c.in-Some-number_in.number h.2 c.if-body-gt-BODY_LIMIT.false c.requires
    c.if-body-len.false
    ∙ sym (ap (cut_by_number c.args.len c.args.header) h.1)
    ∙ sym (ap (λ v. cut_by_value c.args.len c.args.header (option_map (λ x. x.now) v)) c.in-Some.is)
