use Rattle.std.proofs.Common.{subst, ap, ◌∙◌}
use Rattle.sw_before.specs.Clocks.{after_event}
use Rattle.sw_clocks.specs.Rows.{clocks_in}
use Rattle.sw_hb.specs.declared.history.History.{History}
use Rattle.sw_hb.specs.History.{HasRoomForAccess}
use Rattle.sw_hb.specs.Table.{entries_at}
use Rattle.sw_hb.proofs.HistoryLemmas.{few_clocks, history_accessed, history_quiet}
use Rattle.sw_hb.proofs.history.History.take_in.Goals as goal
use Rattle.sw_hb.proofs.history.History.take_in.Goals.{in-Some, in_default}

pub take_in-requires-clause-few : goal.take_in-requires-clause-few
take_in-requires-clause-few c =
    few_clocks c.args.self.now c.args.links.now c.args.access c.requires
    c.match-access.self.clocks (elim c.match-access.branch [
      | in-Some w ↦ ap (λ (h : History). h.clocks) w.self-is ∙ w.take_access.ensures.clocks
      | in_default w ↦ ap (λ (h : History). h.clocks) w.self-is
    ])

pub returns : goal.returns
returns c = λ events e is named links_are access_is. elim c.match-access.branch [
  | in-Some w ↦ history_accessed events e named w.in-Some.access (access_is ∙ w.in-Some.is)
      c.args.self.now _ is (subst (HasRoomForAccess c.args.self.now) w.in-Some.is
      c.requires.has_room.1)
      (c.take_in.ensures e links_are ∙ ap (λ r. after_event (clocks_in r) e)
      (ap (λ (h : History). h.clocks) w.self-is ∙ w.take_access.ensures.clocks))
      (λ p. ap (λ (h : History). entries_at h.table p) w.self-is
      ∙ w.take_access.ensures.table e links_are p)
      (ap (λ (h : History). h.first) w.self-is ∙ w.take_access.ensures.first e links_are)
      (ap (λ (h : History). h.accesses) w.self-is ∙ w.take_access.ensures.accesses)
  | in_default w ↦ history_quiet events e (access_is ∙ w.in_default.is) c.args.self.now _ is
      (c.take_in.ensures e links_are ∙ ap (λ r. after_event (clocks_in r) e)
      (ap (λ (h : History). h.clocks) w.self-is))
      (ap (λ (h : History). h.table) w.self-is) (ap (λ (h : History). h.first) w.self-is)
      (ap (λ (h : History). h.accesses) w.self-is)
]
