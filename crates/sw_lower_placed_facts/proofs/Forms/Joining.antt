-- Code after each other, of whose ends this and that is so.
use Rattle.std.proofs.Common.{ℕ, List, ◌++◌}
use Rattle.std.proofs.lemmas.List.Elements.{All-append, Contains-append_left}
use Rattle.std.proofs.lemmas.List.Elements.{Contains-append_right}
use Rattle.sw_graph.specs.declared.instr.Last.{Last}
use Rattle.sw_lower_plans.specs.Plan.{Anywhere}
use Rattle.sw_lower_code.specs.Code.{Code, andthen, close, done, resume}
use Rattle.sw_lower_code.specs.Whole.{Body}
use Rattle.sw_lower_rules.specs.Expressions.{block_made, jump}
use Rattle.sw_lower_rules.specs.Statements.{in_new_block}
use Rattle.sw_lower_formed_facts.specs.Trees.{IsHere}
use Rattle.sw_typing_facts.proofs.Lists.Joined.{all_left, all_right}
use Rattle.sw_lower_placed_facts.specs.Claims.{AreInside, AreOrdinary, IsOrdinary}
use Rattle.sw_lower_placed_facts.specs.Placing.{Places, PlacesWith}
use Rattle.sw_lower_placed_facts.specs.Hosts.{Program, Host}
use Rattle.sw_lower_placed_facts.proofs.Placing.Joining.{places_after, places_any, places_done}
use Rattle.sw_lower_placed_facts.proofs.Placing.Joining.{places_then}
use Rattle.sw_lower_placed_facts.proofs.Placing.Joining.{places_weaker}
use Rattle.sw_lower_placed_facts.proofs.Placing.Steps.{places_block, places_close, places_resume}

-- Bodies after each other are ordinary where both are.
pub both_ordinary : (program : Program) (xs ys : List Body) → AreOrdinary program xs
    → AreOrdinary program ys → AreOrdinary program (xs ++ ys)
both_ordinary program xs ys = All-append (IsOrdinary program) xs ys

-- The bodies in a part of code are those of the program, where the bodies in all of it are.
pub inside_left : (program : Program) (xs ys : List Body) → AreInside program (xs ++ ys)
    → AreInside program xs
inside_left program xs ys are = record {
  here = all_left (IsHere program.tables program.numbers program.functions) xs ys are.here;
  among = λ body has. are.among body (Contains-append_left xs ys body has);
}

pub inside_right : (program : Program) (xs ys : List Body) → AreInside program (xs ++ ys)
    → AreInside program ys
inside_right program xs ys are = record {
  here = all_right (IsHere program.tables program.numbers program.functions) xs ys are.here;
  among = λ body has. are.among body (Contains-append_right xs ys body has);
}

module _ {program : Program} {host : Host} where
  -- code of which this is so, and after it code of which that is
  pub with_then : {A B : Type 0} {One Other : Type 0} (first : Code A) (next : A → Code B)
      → PlacesWith program host first One
      → (One → (value : A) → PlacesWith program host (next value) Other)
      → PlacesWith program host (andthen first next) Other
  with_then {One = One} {Other = Other} first next one two s =
      places_then s first next (λ value t. One) (λ value t. Other) (one s)
      (λ value u later so. two so value u)

  -- code of which nothing is asked, and after it code of which this is so
  pub then_with : {A B : Type 0} {So : Type 0} (first : Code A) (next : A → Code B)
      → Places program host first → ((value : A) → PlacesWith program host (next value) So)
      → PlacesWith program host (andthen first next) So
  then_with {So = So} first next one two s =
      places_after s first next (λ value t. So) (one s) (λ value u later. two value u)

  -- code of which this is so, and after it code of which nothing is asked
  pub with_end : {A B : Type 0} {One Other : Type 0} (first : Code A) (next : A → Code B)
      → (One → Other) → PlacesWith program host first One
      → ((value : A) → Places program host (next value))
      → PlacesWith program host (andthen first next) Other
  with_end {One = One} {Other = Other} first next gives one two =
      with_then first next one
      (λ so value s. places_weaker s (next value) (λ value t. Unit {0}) (λ value t. Other)
      (two value s) (λ value u later any. gives so))

  pub with_after : {A B : Type 0} {So : Type 0} (first : Code A) (next : A → Code B)
      → PlacesWith program host first So → ((value : A) → Places program host (next value))
      → PlacesWith program host (andthen first next) So
  with_after first next one two = with_end first next (λ so. so) one two

  pub with_weaker : {A : Type 0} {One Other : Type 0} (code : Code A) → (One → Other)
      → PlacesWith program host code One → PlacesWith program host code Other
  with_weaker {One = One} {Other = Other} code gives one s =
      places_weaker s code (λ value t. One) (λ value t. Other) (one s)
      (λ value u later so. gives so)

  pub with_done : {A : Type 0} {So : Type 0} (value : A) → So
      → PlacesWith program host (done value) So
  with_done {So = So} value so s = places_done s value (λ value t. So) so

  -- steps that set no register and see no variable
  pub goes_close : (last : Last) → Places program host (close last)
  goes_close last s = places_any s (close last) _ (places_close s last)

  pub goes_resume : (number : ℕ) → Places program host (resume number)
  goes_resume number s = places_any s (resume number) _ (places_resume s number)

  pub goes_block : Places program host block_made
  goes_block s = places_any s block_made _ (places_block s Anywhere)

  pub goes_jump : (to : ℕ) → Places program host (jump to)
  goes_jump to = goes_close _

  -- after a statement that leaves
  pub goes_new_block : Places program host in_new_block
  goes_new_block = then_with block_made resume goes_block (λ number. goes_resume number)
