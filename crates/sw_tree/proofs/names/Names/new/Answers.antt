use Rattle.std.proofs.Common.{subst, ap, sym, ◌∙◌, ◌<◌, map, length, string_bytes, bytes_eq, arith}
use Rattle.std.specs.List.{IsDistinct}
use Rattle.sw_tree.specs.Names.{predeclared, with_text, with_texts}
use Rattle.sw_tree.proofs.names.Names.new.Goals as goal

pub invariant_of-names : goal.invariant_of-names
unfolding IsDistinct
invariant_of-names c =
    subst (λ keys. IsDistinct bytes_eq (map string_bytes keys)
    × (length (map string_bytes keys) < 4294967296)) (sym c.new.ensures.empty) (tt, omega arith)

pub returns : goal.returns
unfolding predeclared with_text with_texts
returns c =
    c.in_ok-intern_all.ensures
    ∙ ap (λ texts. with_texts (map string_bytes c.new.result.keys) (map (λ text. text.now) texts))
    c.as_slice.ensures
    ∙ ap (λ keys. with_texts (map string_bytes keys) predeclared) c.new.ensures.empty
