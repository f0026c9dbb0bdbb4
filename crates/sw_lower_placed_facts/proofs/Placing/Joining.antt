-- Code that is placed, made of other code.
use Rattle.std.proofs.Common.{◌≡◌, Bool, true, false, List, [], ◌∷◌, length, ap, sym}
use Rattle.std.proofs.Common.{◌∙◌, subst, refl, take, Contains}
use Rattle.std.proofs.Math.Seq.{take-append_seam}
use Rattle.std.specs.Prelude.{All, Result, Ok, Err, if◌then◌else◌}
use Rattle.sw_lower_plans.specs.Plan.{var_in}
use Rattle.sw_lower_plans.specs.Run.{IsGoing, Making, Makes, Meets, place_of, with_vars}
use Rattle.sw_lower_plans.specs.declared.bound.Bound.{Bound}
use Rattle.sw_lower_plans.specs.declared.fault.CodeFault.{CodeFault}
use Rattle.sw_lower_code.specs.Code.{Code, andthen, done, each, scope}
use Rattle.sw_lower_total_facts.proofs.Frames.Joining.{ran_both}
use Rattle.sw_typing_facts.proofs.Lists.Listed.{in_first, in_rest}
use Rattle.sw_lower_formed_facts.proofs.Positions.Steps.{ended}
use Rattle.sw_lower_placed_facts.specs.Placing.{IsKnown, IsMe, PlacesAt, Stood}
use Rattle.sw_lower_placed_facts.specs.Hosts.{Program, Host}
use Rattle.sw_lower_placed_facts.proofs.Placing.Allowed.{known_later}
use Rattle.sw_lower_placed_facts.proofs.Placing.Later.{IsLater}

-- what a run that ended made is what the plan says
pub made_by_run : {A : Type 0} (code : Code A) (s t : Making) (value : A) → IsGoing s
    → code.run s ≡ Ok (value, t) → Makes (code.plan (place_of s)) s t
made_by_run code s t value going ran =
    (subst (λ result. Meets s result (code.plan (place_of s))) ran (code.same s going)).1

-- A run that ended leaves the registers.
pub ran_later : {A : Type 0} (code : Code A) (s t : Making) (value : A) → IsGoing s
    → code.run s ≡ Ok (value, t) → IsLater s t
ran_later code s t value going ran = record {
  regs = (
    (code.plan (place_of s)).regs,
    (made_by_run code s t value going ran).regs,
  );
}

-- what is so of each item and of what is given for it
abbrev pub EachIs : {A B : Type 0} → (A → B → Making → Type 0) → List A → List B → Making → Type 0
EachIs R [] [] t = Unit {0}
EachIs R (x ∷ xs) (y ∷ ys) t = R x y t × EachIs R xs ys t
EachIs R _ _ t = ⊥

module _ {program : Program} {host : Host} where
  -- Placed code is placed with whatever follows of what was claimed.
  pub places_weaker : {A : Type 0} (s : Making) (code : Code A) (Strong Post : A → Making → Type 0)
      → PlacesAt program host s code Strong
      → ((value : A) (t : Making) → IsLater s t → Strong value t → Post value t)
      → PlacesAt program host s code Post
  places_weaker s code Strong Post places weaker stood value t ran fits =
      let got = places stood value t ran fits in
      (got.0, weaker value t (ran_later code s t value stood.going ran) got.1)

  pub places_any : {A : Type 0} (s : Making) (code : Code A) (Post : A → Making → Type 0)
      → PlacesAt program host s code Post
      → PlacesAt program host s code (λ value t. Unit {0})
  places_any s code Post places =
      places_weaker s code Post (λ value t. Unit {0}) places (λ value t later post. tt)

  -- code, where the function before it may be used
  pub places_in : {A : Type 0} (s : Making) (code : Code A) (Post : A → Making → Type 0)
      → (Stood program host s → PlacesAt program host s code Post)
      → PlacesAt program host s code Post
  places_in s code Post places stood = places stood stood

  -- code, and after it code that takes its value
  pub places_then : {A B : Type 0} (s : Making) (first : Code A) (next : A → Code B)
      (Mid : A → Making → Type 0) (Post : B → Making → Type 0)
      → PlacesAt program host s first Mid
      → ((a : A) (u : Making) → IsLater s u → Mid a u → PlacesAt program host u (next a) Post)
      → PlacesAt program host s (andthen first next) Post
  places_then s first next Mid Post one two stood value t ran fits =
      let both = ran_both first next s t value ran in
      let a = both.0 in
      let u = both.1 in
      let later = ran_later first s u a stood.going both.2 in
      let going = (made_by_run first s u a stood.going both.2).there in
      let got = one stood a u both.2
      ((made_by_run (next a) u t value going both.3).before fits) in
      two a u later got.1 got.0 value t both.3 fits

  -- code of whose value nothing is claimed, and code after it
  pub places_after : {A B : Type 0} (s : Making) (first : Code A) (next : A → Code B)
      (Post : B → Making → Type 0) → PlacesAt program host s first (λ value t. Unit {0})
      → ((a : A) (u : Making) → IsLater s u → PlacesAt program host u (next a) Post)
      → PlacesAt program host s (andthen first next) Post
  places_after s first next Post one two =
      places_then s first next (λ value t. Unit {0}) Post one (λ a u later any. two a u later)

  -- one of two codes
  pub places_if : {A : Type 0} (s : Making) (is : Bool) (one other : Code A)
      (Post : A → Making → Type 0) → (is ≡ true → PlacesAt program host s one Post)
      → (is ≡ false → PlacesAt program host s other Post)
      → PlacesAt program host s (if is then one else other) Post
  places_if s true one other Post first second = first refl
  places_if s false one other Post first second = second refl

  -- nothing is made
  pub places_done : {A : Type 0} (s : Making) (value : A) (Post : A → Making → Type 0)
      → Post value s → PlacesAt program host s (done value) Post
  unfolding done
  places_done s value Post post stood given t ran fits =
      let is = ended value s given t ran in (
        subst (Stood program host) is.1 stood,
        subst (λ v. Post v t) is.0 (subst (Post value) is.1 post),
      )

  -- The variables that were seen before are seen.
  seen_again : (s u : Making) → Stood program host s → Stood program host u → IsLater s u
      → (vars : List Bound) → vars ≡ s.vars → Stood program host (record u { vars = vars })
  seen_again s u before stood later vars same = record {
    going = stood.going;
    numbers = stood.numbers;
    known = subst (All (IsKnown program host u.made.regs)) (sym same)
        (λ k d below. known_later program host s.made.regs u.made.regs later.regs _
        (before.known k d below));
    me = λ key bound own me found. before.me key bound own me
        (ap (λ list. var_in key list) (sym same) ∙ found);
    alone = λ has. subst (All (λ (bound : Bound). bound.reg ≡ 0 → IsMe program host bound.key))
        (sym same) (before.alone has);
    taken = stood.taken;
    written = stood.written;
  }

  -- code whose variables are seen in it alone
  pub places_scope : {A : Type 0} (s : Making) (code : Code A) (Post : A → Making → Type 0)
      → PlacesAt program host s code (λ value t. Post value (record t { vars = s.vars }))
      → PlacesAt program host s (scope code) Post
  unfolding scope
  places_scope {A} s code Post places stood value t ran fits = by (code.run s) refl ran where
    by : (result : Result (A × Making) CodeFault) → code.run s ≡ result
        → with_vars (length s.vars) result ≡ Ok (value, t)
        → Stood program host t × Post value t
    by (Err fault) is ran = cc
    by (Ok at) is ran =
        let u = at.1 in
        let made = made_by_run code s u at.0 stood.going is in
        let vars : take (length s.vars) u.vars ≡ s.vars =
        ap (take (length s.vars)) made.vars
        ∙ take-append_seam s.vars (code.plan (place_of s)).vars in
        let left : Making = record u { vars = take (length s.vars) u.vars } in
        let same = ended at.0 left value t ran in
        let seen : record u { vars = s.vars } ≡ t =
        ap (λ vars. record u { vars = vars }) (sym vars) ∙ same.1 in
        let got = places stood at.0 u is (ap (λ (m : Making). m.over) same.1 ∙ fits) in
        let later = ran_later code s u at.0 stood.going is in (
          subst (Stood program host) same.1
              (seen_again s u stood got.0 later (take (length s.vars) u.vars) vars),
          subst (Post value) seen
              (subst (λ v. Post v (record u { vars = s.vars })) same.0 got.1),
        )

  -- code for each item, of whose value something is so as long as registers are but added
  pub places_each_with : {A B : Type 0} (R : A → B → Making → Type 0)
      (stays : (x : A) (y : B) (s u : Making) → IsLater s u → R x y s → R x y u)
      (code : A → Code B) (xs : List A)
      → ((x : A) → Contains xs x → (s : Making) → PlacesAt program host s (code x) (R x))
      → (s : Making) → PlacesAt program host s (each code xs) (EachIs R xs)
  unfolding each
  places_each_with R stays code [] places s = places_done s [] (EachIs R []) tt
  places_each_with R stays code (x ∷ xs) places s =
      places_then s (code x) _ (R x) (EachIs R (x ∷ xs)) (places x (in_first x xs) s)
      (λ y u later one.
      places_then u (each code xs) _ (EachIs R xs) (EachIs R (x ∷ xs))
      (places_each_with R stays code xs (λ z has. places z (in_rest x xs z has)) u)
      (λ ys v longer rest.
      places_done v (y ∷ ys) (EachIs R (x ∷ xs)) (stays x y u v longer one, rest)))
