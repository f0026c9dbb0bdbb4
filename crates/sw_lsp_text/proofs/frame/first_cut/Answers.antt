use Rattle.std.proofs.Common.{◌≡◌, ◌+◌, length, take, Some, None, option_map, ap, ◌∙◌, arith, rules}
use Rattle.std.proofs.lemmas.Grind.{common_steps}
use Rattle.sw_lsp_text.specs.Frames.{cut_by_value}
use Rattle.sw_lsp_text.specs.Header.{value_in}
use Rattle.sw_lsp_text.proofs.Heads.{long_cut, short_cut}
use Rattle.sw_lsp_text.proofs.frame.first_cut.Goals as goal

pub returns-in-Some-clause-cut : goal.returns-in-Some-clause-cut
returns-in-Some-clause-cut c =
    let said : option_map (λ v. v.now) c.value_in.result ≡ value_in (take c.in-Some.end c.args.bytes.now) =
    first_of (search rules, grind (arith, common_steps)) in
    record {
      head = Some (c.in-Some.end + 4, take c.in-Some.end c.args.bytes.now);
      is_head = c.in-Some.ensures.header;
      cut_is =
          c.cut_by_value.ensures.cut ∙ ap (cut_by_value (length c.args.bytes.now) (c.in-Some.end + 4)) said;
    }

pub returns-then-bytes-lt-HEADER_LIMIT-clause-cut : goal.returns-then-bytes-lt-HEADER_LIMIT-clause-cut
returns-then-bytes-lt-HEADER_LIMIT-clause-cut c = record {
  head = None;
  is_head = c.in_default.ensures.header;
  cut_is = short_cut (length c.args.bytes.now) (omega arith);
}

pub returns-clause-cut : goal.returns-clause-cut
returns-clause-cut c = record {
  head = None;
  is_head = c.in_default.ensures.header;
  cut_is = long_cut (length c.args.bytes.now) (omega arith);
}
