-- One act in both colourings, by what palettes show.
use Rattle.std.proofs.Common.{◌≡◌, ℕ, ◌<◌, arith, refl, ap, sym, ◌∙◌, inl, inr}
use Rattle.std.proofs.Common.{Option, Some, None, List, [], ◌∷◌, ◌++◌, map, append-nil}
use Rattle.std.specs.Prelude.{option_map}
use Rattle.std.specs.Option.{option_to_list}
use Rattle.std.specs.List.{All}
use Rattle.std.proofs.lemmas.List.Elements.{All-weaker}
use Rattle.sw_color_rules.specs.declared.colors.Owner.{Owner}
use Rattle.sw_color_rules.specs.declared.colors.Owner.TheVariants as owner
use Rattle.sw_color_rules.specs.declared.colors.Tint.{Tint}
use Rattle.sw_color_rules.specs.declared.colors.Colors.{Colors}
use Rattle.sw_color_rules.specs.declared.plan.Plan.{Plan}
use Rattle.sw_color_rules.specs.declared.plan.FrameChange.{FrameChange}
use Rattle.sw_color_rules.specs.declared.plan.FrameChange.TheVariants.{Stays, Pushed, Begun, Popped}
use Rattle.sw_color_rules.specs.Changes.{Change, Fresh, Mark, Merge}
use Rattle.sw_color_rules.specs.Plans.{frame_changes, makings, merges, handing, changes_by, next_color}
use Rattle.sw_color_rules.specs.Ranges.{AreBelow}
use Rattle.sw_late_facts.specs.Late.{Cargo, delivery, deliveries, givings, merges_here, late_by, cargo_by}
use Rattle.sw_late_facts.specs.Late.{later_of, carrier}
use Rattle.sw_late_facts.proofs.Sights.{if_same}
use Rattle.sw_late_facts.proofs.Handing.{IsSight, is_named, handing_none}
use Rattle.sw_late_facts.proofs.Seen.{Jobs, job_united, job_handed, none_wins, see, seen, IsActors}
use Rattle.sw_late_facts.proofs.Seen.{see_in, see_out, meet_or_not}
use Rattle.sw_late_facts.proofs.Links.{seen_both, seen_sight, seen_count, seen_top, links_wait_all, IsSent}
use Rattle.sw_late_facts.proofs.Links.{cargo_links, givings_lost}
use Rattle.sw_late_facts.proofs.TaskLemmas.{taken_first}
use Rattle.sw_late_facts.proofs.Showing.{sight}
use Rattle.sw_late_facts.proofs.Reaching.{Reaches, Stays, Goes, Begins, Remains}

-- ---- what is made
abbrev pub seen_fresh : Option Owner → Jobs → Jobs
seen_fresh None s = s
seen_fresh (Some o) s = see (Fresh o) s

frame_seen : (job : ℕ) (frame : FrameChange) (s : Jobs) → seen (frame_changes job frame) s ≡ s
frame_seen job FrameChange.Stays s = refl
frame_seen job (Pushed n) s = refl
frame_seen job (Begun n) s = refl
frame_seen job Popped s = refl

pub makings_seen : (job : ℕ) (plan : Plan) (s : Jobs) → seen (makings job plan) s ≡ seen_fresh plan.fresh s
makings_seen job plan s = by plan.fresh plan.tint where
  rest : (t : Option Tint) (r : Jobs)
      → seen (option_to_list (option_map Mark t) ++ frame_changes job plan.frame) r ≡ r
  rest None r = frame_seen job plan.frame r
  rest (Some tint) r = frame_seen job plan.frame r

  by : (o : Option Owner) (t : Option Tint)
      → seen (option_to_list (option_map Fresh o)
      ++ (option_to_list (option_map Mark t) ++ frame_changes job plan.frame)) s ≡ seen_fresh o s
  by None t = rest t s
  by (Some o) t = rest t (see (Fresh o) s)

-- merges keep the count
merged_count : (h : ℕ) (ns : List ℕ) (s : Jobs) → (seen (map (Merge h) ns) s).count ≡ s.count
merged_count h [] s = refl
merged_count h (n ∷ ns) s = merged_count h ns (see (Merge h n) s) ∙ elim (meet_or_not h n s) [
  | inl both ↦ ap (λ (t : Jobs). t.count) (see_in h n s both.0 both.1)
  | inr out ↦ ap (λ (t : Jobs). t.count) (see_out h n s out)
]

pub delivered_count : (cargo : List Cargo) (s : Jobs) → (seen (deliveries cargo) s).count ≡ s.count
delivered_count [] s = refl
delivered_count (c ∷ cs) s =
    ap (λ (t : Jobs). t.count) (seen_both (delivery c) (deliveries cs) s)
    ∙ delivered_count cs (seen (delivery c) s) ∙ merged_count c.actor c.colors s

delivered_one : (cargo : List Cargo) (c : Cargo) (s : Jobs)
    → seen (deliveries (cargo ++ c ∷ [])) s ≡ seen (delivery c) (seen (deliveries cargo) s)
delivered_one [] c s = seen_both (delivery c) [] s
delivered_one (d ∷ ds) c s =
    seen_both (delivery d) (deliveries (ds ++ c ∷ [])) s
    ∙ delivered_one ds c (seen (delivery d) s)
    ∙ ap (seen (delivery c)) (sym (seen_both (delivery d) (deliveries ds) s))

none_handed : (ns : List ℕ) → handing ns None ≡ []
none_handed [] = refl
none_handed (n ∷ ns) = refl

-- ---- one plan
module _ (job : ℕ) (colors : Colors) (plan : Plan) (cargo : List Cargo)
    (is : IsSight (sight colors.palette)) (sent : All (IsSent (sight colors.palette)) cargo) where
  abbrev now : Jobs
  now = sight colors.palette

  -- what the coloured machine shows
  abbrev early : Jobs
  early = seen (deliveries cargo) now

  abbrev Agrees : Option ℕ → Type 0
  Agrees to = seen (changes_by job plan) early
      ≡ seen (deliveries (cargo ++ cargo_by job plan to)) (seen (late_by job plan to) now)

  abbrev begun : Jobs
  begun = seen (makings job plan) early

  early_sight : IsSight early
  early_sight = seen_sight (deliveries cargo) now is

  begun_sight : IsSight begun
  begun_sight = seen_sight (makings job plan) early early_sight

  early_count : early.count ≡ now.count
  early_count = delivered_count cargo now

  still_in : (ns : List ℕ) → AreBelow now.count ns → AreBelow begun.count ns
  still_in ns below = All-weaker (λ n. n < now.count) (λ n. n < begun.count)
      (λ n inside. omega (arith, early_count, seen_count (makings job plan) early, inside)) ns below

  waits : (cs : List Change) → seen (deliveries cargo) (seen cs now) ≡ seen cs early
  waits cs = links_wait_all cs (deliveries cargo) now is (cargo_links now cargo sent)

  -- what follows the makings
  early_rest : seen (changes_by job plan) early
      ≡ seen (handing plan.joined plan.heir) (seen (merges plan.joined) begun)
  early_rest =
      seen_both (makings job plan) (merges plan.joined ++ handing plan.joined plan.heir) early
      ∙ seen_both (merges plan.joined) (handing plan.joined plan.heir) begun

  late_rest : (to : Option ℕ) → seen (late_by job plan to) early
      ≡ seen (merges_here to plan.joined) (seen (givings plan.heir (later_of plan.joined)) begun)
  late_rest to =
      seen_both (makings job plan) (givings plan.heir (later_of plan.joined) ++ merges_here to plan.joined)
      early
      ∙ seen_both (givings plan.heir (later_of plan.joined)) (merges_here to plan.joined) begun

  -- nothing is added to what jobs take to actors
  nothing_more : seen (deliveries (cargo ++ [])) (seen (late_by job plan None) now)
      ≡ seen (merges plan.joined) (seen (givings plan.heir (later_of plan.joined)) begun)
  nothing_more =
      ap (λ c. seen (deliveries c) (seen (late_by job plan None) now)) (append-nil cargo)
      ∙ waits (late_by job plan None) ∙ late_rest None

  stays_agrees : plan.heir ≡ None → Agrees None
  stays_agrees none =
      early_rest
      ∙ ap (λ o. seen (handing plan.joined o) (seen (merges plan.joined) begun)) none
      ∙ ap (λ cs. seen cs (seen (merges plan.joined) begun)) (none_handed plan.joined)
      ∙ ap (λ o. seen (merges plan.joined) (seen (givings o (later_of plan.joined)) begun)) (sym none)
      ∙ sym nothing_more

  begins_agrees : (heir : ℕ) (ns : List ℕ) → plan.heir ≡ Some heir → plan.joined ≡ next_color colors ∷ ns
      → plan.fresh ≡ Some (owner.Job heir) → AreBelow (next_color colors) ns → Agrees None
  begins_agrees heir ns heir_is joined_is fresh_is below =
      early_rest
      ∙ ap (λ o. seen (handing plan.joined o) (seen (merges plan.joined) begun)) heir_is
      ∙ ap (λ js. seen (handing js (Some heir)) (seen (merges js) begun)) joined_is
      ∙ sym (taken_first n heir ns begun begun_sight inside (still_in ns below) (inl own))
      ∙ ap (λ js. seen (merges js) (seen (givings (Some heir) (later_of js)) begun)) (sym joined_is)
      ∙ ap (λ o. seen (merges plan.joined) (seen (givings o (later_of plan.joined)) begun)) (sym heir_is)
      ∙ sym nothing_more
    where
      n : ℕ
      n = next_color colors

      made : begun ≡ see (Fresh (owner.Job heir)) early
      made = makings_seen job plan early ∙ ap (λ o. seen_fresh o early) fresh_is

      inside : n < begun.count
      inside = omega (arith, ap (λ (s : Jobs). s.count) made, early_count)

      own : begun.owner n ≡ Some heir
      own = ap (λ (s : Jobs). s.owner n) made ∙ if_same n early.count _ _ (sym early_count)

  -- What merges with an actor's colour may be handed over before: then it is the actor's all the same.
  actor_agrees : (a : ℕ) (ns : List ℕ) → IsActors now a → AreBelow (next_color colors) ns
      → (heir : Option ℕ) → seen (handing (a ∷ ns) heir) (seen (map (Merge a) ns) begun)
      ≡ seen (map (Merge a) ns) (seen (givings heir ns) begun)
  actor_agrees a ns top below = by where
    begun_top : IsActors begun a
    begun_top = seen_top (makings job plan) early early_sight a (seen_top (deliveries cargo) now is a top)

    by : (heir : Option ℕ) → seen (handing (a ∷ ns) heir) (seen (map (Merge a) ns) begun)
        ≡ seen (map (Merge a) ns) (seen (givings heir ns) begun)
    by None = refl
    by (Some j) =
        handing_none job_united job_handed None (λ o. refl) none_wins (λ k. refl) a j
        (seen (map (Merge a) ns) begun)
        (is_named (seen (map (Merge a) ns) begun) (seen_sight (map (Merge a) ns) begun begun_sight))
        (seen_top (map (Merge a) ns) begun begun_sight a begun_top).none
        ∙ sym (givings_lost a j ns begun begun_sight begun_top (still_in ns below))

  remains_agrees : (heir a : ℕ) (ns : List ℕ) → plan.heir ≡ Some heir → plan.joined ≡ a ∷ ns
      → IsActors now a → AreBelow (next_color colors) ns → Agrees None
  remains_agrees heir a ns heir_is joined_is top below =
      early_rest
      ∙ ap (λ js. seen (handing js plan.heir) (seen (merges js) begun)) joined_is
      ∙ actor_agrees a ns top below plan.heir
      ∙ ap (λ js. seen (merges js) (seen (givings plan.heir (later_of js)) begun)) (sym joined_is)
      ∙ sym nothing_more

  goes_agrees : (a : ℕ) (ns : List ℕ) → plan.joined ≡ a ∷ ns → plan.fresh ≡ None
      → IsActors now a → AreBelow (next_color colors) ns → Agrees (Some a)
  goes_agrees a ns joined_is fresh_is top below =
      early_rest
      ∙ ap (λ js. seen (handing js plan.heir) (seen (merges js) begun)) joined_is
      ∙ actor_agrees a ns top below plan.heir
      ∙ ap (λ js. seen (map (Merge a) (later_of js)) (seen (givings plan.heir (later_of js)) begun))
      (sym joined_is)
      ∙ ap (seen (map (Merge a) (later_of plan.joined))) (sym (waits (late_by job plan (Some a))
      ∙ late_rest (Some a)))
      ∙ sym (delivered_one cargo (record {
        job = carrier job plan.heir;
        actor = a;
        colors = later_of plan.joined;
      }) (seen (late_by job plan (Some a)) now))

  pub agrees : (to : Option ℕ) → Reaches colors plan to → Agrees to
  agrees None (Stays none) = stays_agrees none
  agrees (Some a) (Goes _ ns joined_is fresh_is top below) = goes_agrees a ns joined_is fresh_is top below
  agrees None (Begins heir ns heir_is joined_is fresh_is below) =
      begins_agrees heir ns heir_is joined_is fresh_is below
  agrees None (Remains heir a ns heir_is joined_is top below) =
      remains_agrees heir a ns heir_is joined_is top below
