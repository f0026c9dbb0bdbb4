-- What a closure or a task that is isolated to `self` takes begins with `self`.
use Rattle.std.proofs.Common.{◌≡◌, ℕ, ◌<◌, ◌⊎◌, inl, inr, Bool, true, List, [], ◌∷◌, ◌++◌}
use Rattle.std.proofs.Common.{flat_map, Contains, refl, ap, sym, ◌∙◌, subst, not}
use Rattle.std.proofs.lemmas.Bool.{false≢true}
use Rattle.std.proofs.lemmas.List.Elements.{Contains-append_cases}
use Rattle.std.specs.List.{filter}
use Rattle.sw_list.proofs.Members.{none_in}
use Rattle.sw_tree.proofs.Members.{of_map}
use Rattle.sw_typing_rules.specs.Worlds.{World}
use Rattle.sw_isolation_rules.specs.Captures.{firsts, held_self, is_among, mentioned, outer}
use Rattle.sw_isolation_rules.specs.Captures.{self_of}
use Rattle.sw_isolation_rules.specs.Captures.{taken}
use Rattle.sw_isolation_rules.specs.Kinds.{is_own}
use Rattle.sw_isolation_rules.specs.declared.note.Mention.{Mention}
use Rattle.sw_isolation_rules.specs.declared.note.Note.{Note}
use Rattle.sw_isolation_rules.specs.declared.uses.Context.{Context}
use Rattle.sw_typing_facts.proofs.Lists.Listed.{in_first, only_in}
use Rattle.sw_lower_total_facts.proofs.Closures.Firsts.{taken_held}
use Rattle.sw_lower_total_facts.proofs.Closures.Kept.{among_in, in_among, of_kept}

-- The first of a list passes a test.
record FirstPasses {X : Type 0} (p : X → Bool) (xs : List X) : Type 0 where
  first : X
  more : List X
  are : xs ≡ first ∷ more
  passes : p first ≡ true

-- So it is with what a filter keeps, where it keeps something.
first_kept : {X : Type 0} (p : X → Bool) (xs rest : List X) (x : X) → Contains (filter p xs) x
    → FirstPasses p (filter p xs ++ rest)
first_kept {X} p xs rest x has = by (filter p xs) refl has where
  by : (kept : List X) → filter p xs ≡ kept → Contains kept x
      → FirstPasses p (filter p xs ++ rest)
  by [] is has = absurd (none_in x has)
  by (y ∷ ys) is has = record {
    first = y;
    more = ys ++ rest;
    are = ap (λ kept. kept ++ rest) is;
    passes = (of_kept p xs y (subst (λ kept. Contains kept y) (sym is) (in_first y ys))).1;
  }

-- the first of these mentions is of a variable
pub record Begins (me : ℕ) (mentions : List Mention) : Type 0 where
  pub first : Mention
  pub more : List Mention
  pub are : mentions ≡ first ∷ more
  pub is : first.variable ≡ me

pub taken_begins : (world : World) (context : Context) (closure : ℕ) (inner : List Note) (me : ℕ)
    → is_own context.iso ≡ true → self_of world context.owner ≡ me ∷ [] → me < closure
    → Begins me (taken world context closure inner)
taken_begins world context closure inner me own selves before =
    let (one, among, is) = of_map (λ (other : Mention). other.variable)
    (taken world context closure inner) me
    (taken_held world context closure inner me own
    (subst (λ list. Contains list me) (sym selves) (in_first me [])) before) in
    by one is (Contains-append_cases (filter mine all) (filter others all) one among) where
      mine : Mention → Bool
      mine other = is_among (self_of world context.owner) other.variable

      others : Mention → Bool
      others other = not (is_among (self_of world context.owner) other.variable)

      all : List Mention
      all = firsts (outer closure (flat_map mentioned inner ++ held_self world context closure))

      by : (one : Mention) → one.variable ≡ me
          → Contains (filter mine all) one ⊎ Contains (filter others all) one
          → Begins me (taken world context closure inner)
      by one is (inl here) =
          let kept = first_kept mine all (filter others all) one here in
          record {
            first = kept.first;
            more = kept.more;
            are = kept.are;
            is = sym (only_in me kept.first.variable
                (subst (λ list. Contains list kept.first.variable) selves
                (among_in (self_of world context.owner) kept.first.variable kept.passes)));
          }
      by one is (inr there) =
          let passes = (of_kept others all one there).1 in
          let among = in_among (self_of world context.owner) one.variable
          (subst (λ list. Contains list one.variable) (sym selves)
          (subst (Contains (me ∷ [])) (sym is) (in_first me []))) in
          absurd (false≢true (sym (ap not among) ∙ passes))
