-- What the changes of a plan make of the owner of a colour: it stays, or it is that of one of the
-- colours that become one with it, or the new job's.
use Rattle.std.proofs.Common.{◌≡◌, ◌<◌, ◌++◌, ℕ, Option, Some, None, List, [], ◌∷◌, map, Contains}
use Rattle.std.proofs.Common.{refl, sym, subst, ap, ◌∙◌, inl, inr}
use Rattle.std.specs.List.{All}
use Rattle.std.proofs.lemmas.Bool.{cases_eq}
use Rattle.std.proofs.lemmas.List.{append-nil}
use Rattle.std.proofs.lemmas.List.Elements.{All-head, All-tail}
use Rattle.std.proofs.lemmas.List.Sums.{fold-append}
use Rattle.sw_color_rules.specs.declared.colors.Colors.{Colors}
use Rattle.sw_color_rules.specs.declared.plan.Plan.{Plan}
use Rattle.sw_color_rules.specs.Changes.{Change, HandOver, Merge, after_change, after_changes}
use Rattle.sw_color_rules.specs.Palette.{IsWhole}
use Rattle.sw_color_rules.specs.Plans.{changes_by, handing, makings, merges, next_color}
use Rattle.sw_color_rules.specs.Ranges.{AreBelow}
use Rattle.sw_color_rules.proofs.PaletteLemmas.{changes_whole}
use Rattle.sw_late_facts.proofs.Handing.{IsSight}
use Rattle.sw_late_facts.proofs.Links.{seen_both}
use Rattle.sw_late_facts.proofs.Seen.{Jobs, job_handed, seen}
use Rattle.sw_late_facts.proofs.Showing.{palette_sight, sight, sight_changes}
use Rattle.sw_late_facts.proofs.Sights.{if_other, if_same}
use Rattle.sw_secure_late_facts.proofs.Joining.{base_of}
use Rattle.sw_owned_facts.proofs.Meeting.{Apart, Joined, Met, merged}

pub data Outcome (ns : List ℕ) (heir : Option ℕ) (s u : Jobs) (n : ℕ) : Type 0 where
  Stays : u.owner n ≡ s.owner n → Outcome ns heir s u n
  Turns : (l m : ℕ) → Contains ns l → Contains ns m → s.name l ≡ s.name n → u.name n ≡ u.name m
      → u.owner n ≡ s.owner m → Outcome ns heir s u n
  Handed : (l k : ℕ) → Contains ns l → s.name l ≡ s.name n → heir ≡ Some k → u.owner n ≡ Some k
      → Outcome ns heir s u n

-- the first of those that merged is handed over
handed_outcome : (a j : ℕ) (ns : List ℕ) (s t : Jobs) (n : ℕ) → Met (a ∷ ns) a s t n
    → Outcome (a ∷ ns) (Some j) s (seen (HandOver a j ∷ []) t) n
handed_outcome a j ns s t n (Apart owner unlike lacks) =
    Stays (if_other (t.name n) (t.name a) (job_handed j (t.owner n)) (t.owner n) unlike ∙ owner)
handed_outcome a j ns s t n (Joined l m l_in m_in same name owner) =
    elim (cases_eq (t.name n) (t.name a)) [
      | inl with ↦ by (s.owner m) owner
          (if_same (t.name n) (t.name a) (job_handed j (t.owner n)) (t.owner n) with) refl
      | inr other ↦ Turns l m l_in m_in same name
          (if_other (t.name n) (t.name a) (job_handed j (t.owner n)) (t.owner n) other ∙ owner)
    ]
  where
    by : (o : Option ℕ) → t.owner n ≡ o
        → (seen (HandOver a j ∷ []) t).owner n ≡ job_handed j (t.owner n) → s.owner m ≡ o
        → Outcome (a ∷ ns) (Some j) s (seen (HandOver a j ∷ []) t) n
    by None is gives was = Turns l m l_in m_in same name (gives ∙ ap (job_handed j) is ∙ sym was)
    by (Some k) is gives was = Handed l j l_in same refl (gives ∙ ap (job_handed j) is)

met_outcome : (a : ℕ) (ns : List ℕ) (s t : Jobs) (n : ℕ) → Met (a ∷ ns) a s t n
    → Outcome (a ∷ ns) None s t n
met_outcome a ns s t n (Joined l m l_in m_in same name owner) =
    Turns l m l_in m_in same name owner
met_outcome a ns s t n (Apart owner unlike lacks) = Stays owner

-- colours that merge, and of which the first is handed over
outcome : (ns : List ℕ) (heir : Option ℕ) (s : Jobs) → IsSight s → All (λ m. m < s.count) ns
    → (n : ℕ) → Outcome ns heir s (seen (merges ns ++ handing ns heir) s) n
outcome [] None s is below n = Stays refl
outcome [] (Some j) s is below n = Stays refl
outcome (a ∷ ns) None s is below n =
    subst (λ cs. Outcome (a ∷ ns) None s (seen cs s) n) (sym (append-nil (map (Merge a) ns)))
    (met_outcome a ns s (seen (map (Merge a) ns) s) n
    (merged a ns s is (All-head (λ m. m < s.count) a ns below) (All-tail (λ m. m < s.count) a ns
    below) n))
outcome (a ∷ ns) (Some j) s is below n =
    subst (λ u. Outcome (a ∷ ns) (Some j) s u n)
    (sym (seen_both (map (Merge a) ns) (HandOver a j ∷ []) s))
    (handed_outcome a j ns s (seen (map (Merge a) ns) s) n
    (merged a ns s is (All-head (λ m. m < s.count) a ns below) (All-tail (λ m. m < s.count) a ns
    below) n))

-- what a plan does after what it makes
abbrev pub rest_of : Plan → List Change
rest_of plan = merges plan.joined ++ handing plan.joined plan.heir

pub planned : (job : ℕ) (plan : Plan) (colors : Colors) → IsWhole colors.palette
    → AreBelow (next_color (base_of job plan colors)) plan.joined → (n : ℕ)
    → Outcome plan.joined plan.heir (sight (base_of job plan colors).palette)
    (sight (after_changes (changes_by job plan) colors).palette) n
planned job plan colors whole below n =
    subst (λ u. Outcome plan.joined plan.heir (sight base.palette) u n)
    (sym (ap (λ (c : Colors). sight c.palette)
    (fold-append after_change colors (makings job plan) (rest_of plan))
    ∙ sight_changes (rest_of plan) base base_whole))
    (outcome plan.joined plan.heir (sight base.palette) (palette_sight base.palette base_whole)
    below n)
  where
    base : Colors
    base = base_of job plan colors

    base_whole : IsWhole base.palette
    base_whole = changes_whole (makings job plan) colors whole
