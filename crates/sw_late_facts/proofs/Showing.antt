-- What changes do to palettes, by what palettes show of jobs.
use Rattle.std.proofs.Common.{◌≡◌, ℕ, arith, refl, ap, sym, ◌∙◌, inl, inr}
use Rattle.std.proofs.Common.{Option, Some, None, List, [], ◌∷◌, length}
use Rattle.std.specs.Prelude.{option_map}
use Rattle.std.proofs.lemmas.List.{get_or_default, ext_get_or}
use Rattle.sw_color_rules.specs.declared.colors.Owner.{Owner}
use Rattle.sw_color_rules.specs.declared.colors.Owner.TheVariants.{Job, ActorOf, Global}
use Rattle.sw_color_rules.specs.declared.colors.Palette.{Palette}
use Rattle.sw_color_rules.specs.declared.colors.Colors.{Colors}
use Rattle.sw_color_rules.specs.Palette.{united, handed_to}
use Rattle.sw_color_rules.specs.Palette.{IsWhole}
use Rattle.sw_color_rules.specs.Changes.{Change, Fresh, Mark, Push, Begin, Pop, Merge, HandOver}
use Rattle.sw_color_rules.specs.Changes.{after_change, after_changes, mark, push_here, pop_here, begin_heres}
use Rattle.sw_color_rules.proofs.PaletteLemmas.{changes_whole}
use Rattle.sw_late_facts.specs.Alike.{job_of}
use Rattle.sw_late_facts.proofs.Handing.{IsSight}
use Rattle.sw_late_facts.proofs.Seen.{Jobs, job_united, job_handed, see, seen, see_in, see_out, meet_or_not}
use Rattle.sw_late_facts.proofs.Palettes.{sight_as, palette_shows, sight_fresh, sight_merge, merge_out, sight_handed}

-- what a palette shows of jobs
abbrev pub sight : Palette → Jobs
sight p = sight_as job_of p

pub palette_sight : (p : Palette) → IsWhole p → IsSight (sight p)
palette_sight p whole = palette_shows job_of p whole

unites : (low high : Owner) → job_of (Some (united low high))
    ≡ job_united (job_of (Some low)) (job_of (Some high))
unites (Job j) high = refl
unites (ActorOf c) high = refl
unites (Global g) high = refl

hands : (j : ℕ) (o : Option Owner) → job_of (option_map (handed_to j) o) ≡ job_handed j (job_of o)
hands j None = refl
hands j (Some (Job i)) = refl
hands j (Some (ActorOf c)) = refl
hands j (Some (Global g)) = refl

-- ---- changes
pub sight_change : (c : Change) (colors : Colors) → IsWhole colors.palette
    → sight (after_change colors c).palette ≡ see c (sight colors.palette)
unfolding mark push_here pop_here begin_heres
sight_change (Fresh o) colors whole = sight_fresh job_of job_united job_handed unites hands o colors.palette whole
sight_change (Mark tint) colors whole = refl
sight_change (Push job n) colors whole = refl
sight_change (Begin n) colors whole = refl
sight_change (Pop job) colors whole = refl
sight_change (Merge a b) colors whole = elim (meet_or_not a b (sight colors.palette)) [
  | inl both ↦
      sight_merge job_of job_united job_handed unites hands a b colors.palette whole both.0 both.1
      ∙ sym (see_in a b (sight colors.palette) both.0 both.1)
  | inr out ↦
      ap sight (merge_out job_of job_united job_handed unites hands a b colors.palette whole out)
      ∙ sym (see_out a b (sight colors.palette) out)
]
sight_change (HandOver n j) colors whole = sight_handed job_of job_united job_handed unites hands n j colors.palette whole

pub sight_changes : (cs : List Change) (colors : Colors) → IsWhole colors.palette
    → sight (after_changes cs colors).palette ≡ seen cs (sight colors.palette)
sight_changes [] colors whole = refl
sight_changes (c ∷ cs) colors whole =
    sight_changes cs (after_change colors c) (changes_whole (c ∷ []) colors whole)
    ∙ ap (seen cs) (sight_change c colors whole)

-- palettes that show the same have the same names
pub same_names : (p q : Palette) → sight p ≡ sight q → p.names ≡ q.names
same_names p q e = ext_get_or 0 p.names q.names (ap (λ (s : Jobs). s.count) e) (λ i inside.
    get_or_default p.names i 0 i inside
    ∙ ap (λ (s : Jobs). s.name i) e
    ∙ get_or_default q.names i i 0 (let counts : length p.names ≡ length q.names =
    ap (λ (s : Jobs). s.count) e in omega (arith, counts, inside)))
