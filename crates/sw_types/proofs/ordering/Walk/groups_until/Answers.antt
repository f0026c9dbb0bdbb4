use Rattle.std.proofs.Common.{◌≡◌, ◌≤◌, ◌-◌, inl, inr, length, get_or, ap, sym, subst, arith}
use Rattle.std.proofs.lemmas.Bool.{cases_eq}
use Rattle.std.proofs.lemmas.List.{get_or_default}
use Rattle.sw_types.specs.declared.ordering.Group.{Group}
use Rattle.sw_types.proofs.ordering.Walk.groups_until.Goals as goal

pub returns-else-groups-count-clause-until : goal.returns-else-groups-count-clause-until
returns-else-groups-count-clause-until c k d low lt =
    let groups = c.as_slice-groups.result.now in
    let last = c.loop-count.count - 1 in
    let size : length c.as_slice-groups.result.now ≡ length c.args.self.now.groups =
    ap length c.as_slice-groups.ensures in
    let le = c.loop-count.invariant.0 in
    let here : (get_or c.args.self.now.groups last d).first ≤ c.args.place =
    subst (λ gs. (get_or gs last d).first ≤ c.args.place) c.as_slice-groups.ensures
    (subst (λ (g : Group). g.first ≤ c.args.place) (get_or_default groups last _ d (omega arith))
    c.if-groups-count.false) in
    elim (cases_eq k last) [
      | inl e ↦ subst (λ j. (get_or c.args.self.now.groups j d).first ≤ c.args.place) (sym e) here
      | inr ne ↦
          (let before = (c.requires k last d (omega arith) (omega arith)).0 in omega (arith, before))
    ]
