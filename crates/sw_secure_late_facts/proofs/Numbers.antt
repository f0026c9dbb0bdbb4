-- The numbers of the jobs' colours in use are of colours that were made.
use Rattle.std.proofs.Common.{◌≡◌, ◌<◌, ◌≤◌, ℕ, Option, Some, None, List, Contains, refl, sym}
use Rattle.std.proofs.Common.{subst, ◌∙◌, arith}
use Rattle.std.proofs.Common.{map}
use Rattle.std.specs.List.{All}
use Rattle.std.specs.Option.{option_map}
use Rattle.sw_list.proofs.Members.{stands_at}
use Rattle.sw_color_rules.specs.declared.colors.Colors.{Colors}
use Rattle.sw_color_rules.specs.declared.colors.Owner.{Owner}
use Rattle.sw_color_rules.specs.declared.colors.Owner.TheVariants as owner
use Rattle.sw_color_rules.specs.declared.colors.Palette.{Palette}
use Rattle.sw_color_rules.specs.Names.{name_in}
use Rattle.sw_color_rules.specs.Palette.{IsWhole, owner_in}
use Rattle.sw_color_rules.specs.Plans.{next_color}
use Rattle.sw_color_rules.specs.Ranges.{AreBelow, AreMade}
use Rattle.sw_color_rules.specs.Tints.{color_number}
use Rattle.sw_color_rules.proofs.NumberLemmas.{all_there}
use Rattle.sw_late_facts.specs.Hues.{hue, hue_by}
use Rattle.sw_owner_facts.specs.Colours.{Colour, OfJob}
use Rattle.sw_view_facts.proofs.RenameLemmas.{of_map}
use Rattle.sw_secure_facts.specs.Secure.{AreNumberedBelow}
use Rattle.sw_hue_facts.specs.Hued.{hued}
use Rattle.sw_secure_late_facts.proofs.Values.{number_made, number_shows}

-- what holds of all holds of each
pub all_in : {X : Type 0} (P : X → Type 0) (xs : List X) (x : X) → All P xs → Contains xs x → P x
all_in P xs x all has = let at = stands_at xs x has in all_there P xs at.0 x at.1 all

-- the number in a job's hue is what is left of the colour
pub job_number : (o : Option Owner) (n job number : ℕ) → hue_by o n ≡ OfJob job number → n ≡ number
job_number None n job number is = cc
job_number (Some (owner.Job j)) n job number is = cc
job_number (Some (owner.ActorOf c)) n job number is = cc
job_number (Some (owner.Global g)) n job number is = cc

hue_below : (p : Palette) → IsWhole p → (n job number : ℕ) → hue p n ≡ OfJob job number → number ≤ n
hue_below p whole n job number is =
    let lower = whole.lower n in
    let same = job_number (owner_in p n) (name_in p.names n) job number is in
    omega (arith, lower, same)

pub numbered : (colors : Colors) → IsWhole colors.palette → AreMade colors
    → AreNumberedBelow (next_color colors) (hued colors)
numbered colors whole made = record {
  cells = λ c job number is. of_cell c job number (color_number colors.cells c) refl
      (sym (number_shows colors.palette colors.cells c) ∙ is);
  heres = λ row job number among has. of_row row job number has
      (of_map (map (hue colors.palette)) colors.heres row among);
} where
  of_cell : (c job number : ℕ) (o : Option ℕ) → color_number colors.cells c ≡ o
      → option_map (hue colors.palette) o ≡ Some (OfJob job number) → number < next_color colors
  of_cell c job number None at is = absurd (let clash : ⊥ = cc in clash)
  of_cell c job number (Some n) at is =
      let shows : hue colors.palette n ≡ OfJob job number = cc in
      let few = hue_below colors.palette whole n job number shows in
      let below = number_made colors made c n at in
      omega (arith, few, below)

  of_row : (row : List Colour) (job number : ℕ) → Contains row (OfJob job number)
      → (ns : List ℕ) × Contains colors.heres ns × (map (hue colors.palette) ns ≡ row)
      → number < next_color colors
  of_row row job number has (ns, among, is) =
      let one = of_map (hue colors.palette) ns (OfJob job number)
      (subst (λ l. Contains l (OfJob job number)) (sym is) has) in
      let few = hue_below colors.palette whole one.0 job number one.2 in
      let below = all_in (λ n. n < next_color colors) ns one.0
      (all_in (AreBelow (next_color colors)) colors.heres ns made.heres among) one.1 in
      omega (arith, few, below)
