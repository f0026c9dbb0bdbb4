use Rattle.std.proofs.Common.{sym, subst, ap, ◌∙◌}
use Rattle.sw_partition.specs.Regions.{Regions}
use Rattle.sw_partition.specs.Tables.{AreTables, KeepsLinks, AreBitsWithin}
use Rattle.sw_partition.proofs.Including.{included, marks_within}
use Rattle.sw_partition.proofs.state.Partition.includes.Goals as goal

pub returns-then-is_coarser : goal.returns-then-is_coarser
returns-then-is_coarser c =
    let tables = subst (λ (r : Regions). AreTables r.labels r.sites r.words) c.self.view_is
    c.self.invariant in
    let other_tables = subst (λ (r : Regions). AreTables r.labels r.sites r.words) c.other.view_is
    c.other.invariant in
    let links : KeepsLinks c.args.other.now.labels c.args.self.now.labels =
    subst (λ v. KeepsLinks v c.args.self.now.labels) (c.deref-2.ensures.value
    ∙ ap (λ (r : Regions). r.labels) c.other.view_is)
    (subst (λ v. KeepsLinks c.deref-2.result.now v) (c.deref.ensures.value
    ∙ ap (λ (r : Regions). r.labels) c.self.view_is)
    (c.is_coarser.ensures.0 c.if-is_coarser.true)) in
    let words = c.deref-then-is_coarser.ensures.value
    ∙ ap (λ (r : Regions). r.words) c.self.view_is in
    let other_words = c.deref-then-is_coarser-2.ensures.value
    ∙ ap (λ (r : Regions). r.words) c.other.view_is in (
      λ holds. included c.args.other.now c.args.self.now c.requires other_tables tables links
          (subst (λ v. AreBitsWithin v c.args.self.now.words) other_words
          (subst (λ v. AreBitsWithin c.deref-then-is_coarser-2.result.now v) words
          (c.covers.ensures.0 holds))),
      λ within. c.covers.ensures.1
          (subst (λ v. AreBitsWithin v c.deref-then-is_coarser.result.now) (sym other_words)
          (subst (λ v. AreBitsWithin c.args.other.now.words v) (sym words)
          (marks_within c.args.other.now c.args.self.now c.requires other_tables tables within))),
    )
