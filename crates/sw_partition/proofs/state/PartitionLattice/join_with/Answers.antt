use Rattle.std.proofs.Common.{◌||◌, Bool, sym, subst, ap, ◌∙◌, arith}
use Rattle.sw_partition.specs.Regions.{Regions}
use Rattle.sw_partition.specs.Tables.{AreTables}
use Rattle.sw_partition.proofs.Uniting.{union_made, union_least, union_changed}
use Rattle.sw_partition.proofs.state.PartitionLattice.join_with.Goals.{then-united, else-united}
use Rattle.sw_partition.proofs.state.PartitionLattice.join_with.Goals as goal

pub returns-clause-least : goal.returns-clause-least
returns-clause-least g c =
    union_least c.args.self.now c.args.other.now _ _ _ c.requires
    (union_made c.self.inside.labels.len c.self.inside.words.len c.self.inside.labels.items _
    c.unite-united.new.labels c.self.inside.sites.items c.self.inside.words.items _
    c.fill-filled.new.words c.args.self.now c.args.other.now _ _ c.unite-united.result
    c.fill-filled.result c.self.view_is (omega (arith, c.self.inside.labels.ok.0))
    (omega (arith, c.self.inside.words.ok.0)) c.deref_mut.ensures.value
    c.deref_mut-2.ensures.value (c.deref.ensures.value
    ∙ ap (λ (r : Regions). r.labels) c.other.view_is) (c.deref-2.ensures.value
    ∙ ap (λ (r : Regions). r.words) c.other.view_is) c.unite-united.ensures
    c.fill-filled.ensures)

pub returns-clause-changed : goal.returns-clause-changed
returns-clause-changed g c =
    union_changed c.args.self.now c.args.other.now _ _ _ c.if-united.result c.requires
    (subst (λ (r : Regions). AreTables r.labels r.sites r.words) c.self.view_is
    c.self.invariant) (subst
    (λ (r : Regions). AreTables r.labels r.sites r.words) c.other.view_is c.other.invariant)
    (union_made c.self.inside.labels.len c.self.inside.words.len c.self.inside.labels.items _
    c.unite-united.new.labels c.self.inside.sites.items c.self.inside.words.items _
    c.fill-filled.new.words c.args.self.now c.args.other.now _ _ c.unite-united.result
    c.fill-filled.result c.self.view_is (omega (arith, c.self.inside.labels.ok.0))
    (omega (arith, c.self.inside.words.ok.0)) c.deref_mut.ensures.value
    c.deref_mut-2.ensures.value (c.deref.ensures.value
    ∙ ap (λ (r : Regions). r.labels) c.other.view_is) (c.deref-2.ensures.value
    ∙ ap (λ (r : Regions). r.words) c.other.view_is) c.unite-united.ensures
    c.fill-filled.ensures) (elim c.if-united.branch [
      | then-united w ↦ w.result-is
          ∙ (w.if-united.true ∙ ap (λ (b : Bool). b || c.fill-filled.result) (sym w.if-united.true))
      | else-united w ↦ w.result-is
          ∙ ap (λ (b : Bool). b || c.fill-filled.result) (sym w.if-united.false)
    ])
