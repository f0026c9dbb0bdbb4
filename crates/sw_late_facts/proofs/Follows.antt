-- The late colouring follows the early one, item by item.
use Rattle.std.proofs.Common.{◌≡◌, ◌⊎◌, ℕ, zero, suc, arith, refl, ap, sym, ◌∙◌, inl, inr, subst}
use Rattle.std.proofs.Common.{Option, Some, None, List, [], ◌∷◌, ◌++◌}
use Rattle.std.proofs.lemmas.List.{append-nil}
use Rattle.std.specs.Prelude.{option_map}
use Rattle.std.specs.Option.{option_to_list}
use Rattle.std.specs.List.{All}
use Rattle.sw_graph.specs.declared.graph.Graph.{Graph}
use Rattle.sw_value.specs.declared.state.State.{State}
use Rattle.sw_color_rules.specs.declared.colors.Owner.{Owner}
use Rattle.sw_color_rules.specs.declared.colors.Owner.TheVariants as owner
use Rattle.sw_color_rules.specs.declared.colors.Tint.{Tint}
use Rattle.sw_color_rules.specs.declared.colors.Tint.TheVariants as tint
use Rattle.sw_color_rules.specs.declared.colors.Colors.{Colors}
use Rattle.sw_color_rules.specs.declared.plan.Plan.{Plan}
use Rattle.sw_color_rules.specs.declared.plan.FrameChange.{FrameChange}
use Rattle.sw_color_rules.specs.declared.plan.FrameChange.TheVariants.{Pushed, Begun, Popped}
use Rattle.sw_color_rules.specs.declared.colored.Colored.{Colored}
use Rattle.sw_color_rules.specs.Palette.{IsWhole}
use Rattle.sw_color_rules.specs.Tints.{owned_number, owned_by}
use Rattle.sw_color_rules.specs.Changes.{Change, Fresh, Mark, after_changes}
use Rattle.sw_color_rules.specs.Plans.{makings, frame_changes, next_color}
use Rattle.sw_color_rules.proofs.PaletteLemmas.{changes_whole}
use Rattle.sw_late_facts.specs.Late.{Cargo, Late, deliveries}
use Rattle.sw_late_facts.proofs.Sights.{if_same}
use Rattle.sw_late_facts.proofs.Handing.{IsSight}
use Rattle.sw_late_facts.proofs.Seen.{Jobs, seen, IsActors}
use Rattle.sw_late_facts.proofs.Links.{seen_both, seen_sight, seen_top, IsSent}
use Rattle.sw_late_facts.proofs.Showing.{sight, palette_sight, sight_changes}
use Rattle.sw_late_facts.proofs.Reaching.{HaveColors, OwnsFresh}
use Rattle.sw_late_facts.proofs.Cells.{cells_after, heres_after, changes_cells, changes_heres, cells_both}
use Rattle.sw_late_facts.proofs.Cells.{IsQuiet}
use Rattle.sw_late_facts.proofs.Turns.{makings_seen, seen_fresh}

pub record Follows (graph : Graph) (early : Colored) (late : Late) : Type 0 where
  pub state : early.state ≡ late.state
  pub cells : early.colors.cells ≡ late.colors.cells
  pub heres : early.colors.heres ≡ late.colors.heres
  pub early_whole : IsWhole early.colors.palette
  pub late_whole : IsWhole late.colors.palette
  pub have : HaveColors graph late.colors
  pub sent : All (IsSent (sight late.colors.palette)) late.cargo
  pub same : sight early.colors.palette ≡ seen (deliveries late.cargo) (sight late.colors.palette)

-- ---- what one act does to both
-- the changes of an act in both colourings, and what jobs take to actors after it
pub record Turns (graph : Graph) (late : Late) (now later : List Change) (cargo : List Cargo) : Type 0 where
  pub cells : (c : List Tint) → cells_after now c ≡ cells_after later c
  pub heres : (h : List (List ℕ)) → heres_after now h ≡ heres_after later h
  pub have : HaveColors graph (after_changes later late.colors)
  pub sent : All (IsSent (seen later (sight late.colors.palette))) cargo
  pub same : seen now (seen (deliveries late.cargo) (sight late.colors.palette))
      ≡ seen (deliveries cargo) (seen later (sight late.colors.palette))

pub turned : (graph : Graph) (early : Colored) (late : Late) (now later : List Change) (cargo : List Cargo)
    (state : State) → Follows graph early late → Turns graph late now later cargo
    → Follows graph (record { state = state; colors = after_changes now early.colors })
    (record { state = state; colors = after_changes later late.colors; cargo = cargo })
turned graph early late now later cargo state f t = record {
  state = refl;
  cells = changes_cells now early.colors ∙ ap (cells_after now) f.cells ∙ t.cells late.colors.cells
      ∙ sym (changes_cells later late.colors);
  heres = changes_heres now early.colors ∙ ap (heres_after now) f.heres ∙ t.heres late.colors.heres
      ∙ sym (changes_heres later late.colors);
  early_whole = changes_whole now early.colors f.early_whole;
  late_whole = changes_whole later late.colors f.late_whole;
  have = t.have;
  sent = subst (λ s. All (IsSent s) cargo) (sym (sight_changes later late.colors f.late_whole)) t.sent;
  same = sight_changes now early.colors f.early_whole ∙ ap (seen now) f.same ∙ t.same
      ∙ ap (seen (deliveries cargo)) (sym (sight_changes later late.colors f.late_whole));
}

-- ---- actors keep their colours
-- changes of the palette alone
pub have_quiet : (graph : Graph) (cs : List Change) (colors : Colors) → IsWhole colors.palette → IsQuiet cs
    → HaveColors graph colors → HaveColors graph (after_changes cs colors)
have_quiet graph cs colors whole quiet have = record {
  globals = λ g few. still g (have.globals g few);
  actors = λ c n e. still n (have.actors c n
      (ap (λ cells. owned_number cells c) (sym (quiet.cells colors.cells) ∙ sym (changes_cells cs colors))
      ∙ e));
} where
  still : (n : ℕ) → IsActors (sight colors.palette) n → IsActors (sight (after_changes cs colors).palette) n
  still n top = subst (λ s. IsActors s n) (sym (sight_changes cs colors whole))
      (seen_top cs (sight colors.palette) (palette_sight colors.palette whole) n top)

-- what is owned by one more cell
owned_more : (cells : List Tint) (t : Tint) (c n : ℕ) → owned_number (cells ++ t ∷ []) c ≡ Some n
    → (owned_number cells c ≡ Some n) ⊎ (t ≡ tint.Owns n)
unfolding owned_number
owned_more [] t zero n e = inr (by t e) where
  by : (u : Tint) → owned_by u ≡ Some n → u ≡ tint.Owns n
  by (tint.Owns m) h = ap tint.Owns (let same : m ≡ n = cc in same)
  by tint.Bare h = cc
  by (tint.Colored m) h = cc
  by (tint.Holds ns) h = cc
owned_more [] t (suc c) n e = cc
owned_more (u ∷ us) t zero n e = inl e
owned_more (u ∷ us) t (suc c) n e = owned_more us t c n e

pub cells_made : (job : ℕ) (plan : Plan) (cells : List Tint)
    → cells_after (makings job plan) cells ≡ cells ++ option_to_list plan.tint
cells_made job plan cells = by plan.fresh plan.tint where
  framed : (f : FrameChange) (c : List Tint) → cells_after (frame_changes job f) c ≡ c
  framed FrameChange.Stays c = refl
  framed (Pushed n) c = refl
  framed (Begun n) c = refl
  framed Popped c = refl

  rest : (t : Option Tint) → cells_after (option_to_list (option_map Mark t) ++ frame_changes job plan.frame) cells
      ≡ cells ++ option_to_list t
  rest None = framed plan.frame cells ∙ sym (append-nil cells)
  rest (Some u) = framed plan.frame (cells ++ u ∷ [])

  by : (o : Option Owner) (t : Option Tint) → cells_after (option_to_list (option_map Fresh o)
      ++ (option_to_list (option_map Mark t) ++ frame_changes job plan.frame)) cells
      ≡ cells ++ option_to_list t
  by None t = rest t
  by (Some o) t = rest t

-- a plan, and then changes of the palette
pub have_planned : (graph : Graph) (job : ℕ) (plan : Plan) (quiet_ones : List Change) (colors : Colors)
    → IsWhole colors.palette → IsQuiet quiet_ones → OwnsFresh colors plan → HaveColors graph colors
    → HaveColors graph (after_changes (makings job plan ++ quiet_ones) colors)
have_planned graph job plan quiet_ones colors whole quiet owns have = record {
  globals = λ g few. still g (have.globals g few);
  actors = λ c n e. by plan.tint refl c n
      (ap (λ cells. owned_number cells c)
      (sym (changes_cells (makings job plan ++ quiet_ones) colors
      ∙ cells_both (makings job plan) quiet_ones colors.cells
      ∙ quiet.cells (cells_after (makings job plan) colors.cells)
      ∙ cells_made job plan colors.cells)) ∙ e);
} where
  s : Jobs
  s = sight colors.palette

  is : IsSight s
  is = palette_sight colors.palette whole

  all : List Change
  all = makings job plan ++ quiet_ones

  still : (n : ℕ) → IsActors s n → IsActors (sight (after_changes all colors).palette) n
  still n top = subst (λ r. IsActors r n) (sym (sight_changes all colors whole)) (seen_top all s is n top)

  -- the colour that is made for an actor
  made : (c : ℕ) → plan.fresh ≡ Some (owner.ActorOf c)
      → IsActors (sight (after_changes all colors).palette) (next_color colors)
  made c fresh =
      let begun = makings_seen job plan s ∙ ap (λ o. seen_fresh o s) fresh in
      let top : IsActors (seen (makings job plan) s) (next_color colors) =
      subst (λ r. IsActors r (next_color colors)) (sym begun)
      (record { inside = omega arith; none = if_same (next_color colors) (next_color colors) _ _ refl }) in
      subst (λ r. IsActors r (next_color colors))
      (sym (sight_changes all colors whole ∙ seen_both (makings job plan) quiet_ones s))
      (seen_top quiet_ones (seen (makings job plan) s) (seen_sight (makings job plan) s is)
      (next_color colors) top)

  by : (t : Option Tint) → plan.tint ≡ t → (c n : ℕ)
      → owned_number (colors.cells ++ option_to_list t) c ≡ Some n
      → IsActors (sight (after_changes all colors).palette) n
  by None e c n h =
      still n (have.actors c n (ap (λ cells. owned_number cells c) (sym (append-nil colors.cells)) ∙ h))
  by (Some t) e c n h = elim (owned_more colors.cells t c n h) [
    | inl old ↦ still n (have.actors c n old)
    | inr new ↦
        let fresh = owns n (e ∙ ap (λ u. Some u) new) in
        subst (IsActors (sight (after_changes all colors).palette)) (sym fresh.2) (made fresh.0 fresh.1)
  ]
