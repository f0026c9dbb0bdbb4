-- What is noted of a closure: what it takes, which the tables have as its captures, and what is
-- mentioned around it.
use Rattle.std.proofs.Common.{◌≡◌, ℕ, List, [], ◌∷◌, ◌++◌, map, flat_map, refl, ap, ◌∙◌}
use Rattle.std.proofs.Common.{append-nil, not}
use Rattle.std.proofs.lemmas.List.Concat.{flat_map-append}
use Rattle.std.proofs.lemmas.List.Elements.{filter-append}
use Rattle.std.specs.Prelude.{◌==◌}
use Rattle.std.specs.List.{filter}
use Rattle.sw_typing_rules.specs.Worlds.{World}
use Rattle.sw_isolation_rules.specs.Captures.{captured, closed, is_among, is_mention, mentioned}
use Rattle.sw_isolation_rules.specs.Captures.{own_mentions, taken}
use Rattle.sw_isolation_rules.specs.Lists.{capture_of, held_in, vars_in}
use Rattle.sw_isolation_rules.specs.declared.note.Capture.{Capture}
use Rattle.sw_isolation_rules.specs.declared.note.Captured.{Captured as Held}
use Rattle.sw_isolation_rules.specs.declared.note.Mention.{Mention}
use Rattle.sw_isolation_rules.specs.declared.note.Note.{Note}
use Rattle.sw_isolation_rules.specs.declared.note.Note.TheVariants.{Body, Kind, Refused, Race, Var}
use Rattle.sw_isolation_rules.specs.declared.note.Note.TheVariants.{Mentioned, Captures}
use Rattle.sw_isolation_rules.specs.declared.uses.Context.{Context}
use Rattle.sw_lower_rules.specs.Tables.{Isolation, Tables, isolation_in}
use Rattle.sw_lower_total_facts.specs.Noted.{held_of}
use Rattle.sw_lower_total_facts.proofs.Closures.Kept.{kept_all, kept_map, same_key}

-- what a closure takes of a mention
abbrev pub held_as : ℕ → List ℕ → Mention → Held
held_as closure listed one = record {
  closure = closure;
  mention = one;
  listed = is_among listed one.variable;
}

-- what the tables have for that
abbrev pub capture_as : List Note → ℕ → List ℕ → Mention → Capture
capture_as all closure listed one = capture_of (vars_in all) (held_as closure listed one)

-- The captures of a closure are what it is noted to take.
pub captures_are_held : (tables : Tables) (all : List Note) → tables.isolation ≡ isolation_in all
    → (closure : ℕ) → tables.isolation.captures_of closure
    ≡ map (capture_of (vars_in all)) (held_of closure all)
captures_are_held tables all noted closure =
    ap (λ (isolation : Isolation). isolation.captures_of closure) noted
    ∙ kept_map (λ (one : Capture). one.closure == closure) (capture_of (vars_in all))
    (flat_map held_in all)

-- Without mentions all is taken that was.
held_apart : (notes : List Note)
    → flat_map held_in (filter (λ note. not (is_mention note)) notes) ≡ flat_map held_in notes
held_apart [] = refl
held_apart (Body body ∷ notes) = held_apart notes
held_apart (Kind kinded ∷ notes) = held_apart notes
held_apart (Refused placed ∷ notes) = held_apart notes
held_apart (Race placed ∷ notes) = held_apart notes
held_apart (Var key ∷ notes) = held_apart notes
held_apart (Mentioned one ∷ notes) = held_apart notes
held_apart (Captures held ∷ notes) = ap (λ more. held ∷ more) (held_apart notes)

-- Mentions take nothing.
pub held_mentions : (mentions : List Mention) → flat_map held_in (map Mentioned mentions) ≡ []
held_mentions [] = refl
held_mentions (one ∷ mentions) = held_mentions mentions

held_captured : (closure : ℕ) (listed : List ℕ) (mentions : List Mention)
    → flat_map held_in (map (captured closure listed) mentions)
    ≡ map (held_as closure listed) mentions
held_captured closure listed [] = refl
held_captured closure listed (one ∷ mentions) =
    ap (λ more. held_as closure listed one ∷ more) (held_captured closure listed mentions)

-- Nothing is mentioned where mentions are left out, and by what is taken.
mentioned_apart : (notes : List Note)
    → flat_map mentioned (filter (λ note. not (is_mention note)) notes) ≡ []
mentioned_apart [] = refl
mentioned_apart (Body body ∷ notes) = mentioned_apart notes
mentioned_apart (Kind kinded ∷ notes) = mentioned_apart notes
mentioned_apart (Refused placed ∷ notes) = mentioned_apart notes
mentioned_apart (Race placed ∷ notes) = mentioned_apart notes
mentioned_apart (Var key ∷ notes) = mentioned_apart notes
mentioned_apart (Mentioned one ∷ notes) = mentioned_apart notes
mentioned_apart (Captures held ∷ notes) = mentioned_apart notes

mentioned_captured : (closure : ℕ) (listed : List ℕ) (mentions : List Mention)
    → flat_map mentioned (map (captured closure listed) mentions) ≡ []
mentioned_captured closure listed [] = refl
mentioned_captured closure listed (one ∷ mentions) = mentioned_captured closure listed mentions

pub mentioned_all : (mentions : List Mention)
    → flat_map mentioned (map Mentioned mentions) ≡ mentions
mentioned_all [] = refl
mentioned_all (one ∷ mentions) = ap (λ more. one ∷ more) (mentioned_all mentions)

module _ (world : World) (context : Context) (closure : ℕ) (listed : List ℕ)
    (inner : List Note) where
  abbrev apart : List Note
  apart = filter (λ note. not (is_mention note)) inner

  abbrev took : List Note
  took = map (captured closure listed) (taken world context closure inner)

  abbrev saw : List Note
  saw = map Mentioned (own_mentions closure inner)

  -- what is taken in a closure, and by it
  pub held_closed : flat_map held_in (closed world context closure listed inner)
      ≡ flat_map held_in inner ++ map (held_as closure listed) (taken world context closure inner)
  held_closed =
      flat_map-append held_in (apart ++ took) saw
      ∙ ap (λ more. flat_map held_in (apart ++ took) ++ more)
      (held_mentions (own_mentions closure inner))
      ∙ append-nil (flat_map held_in (apart ++ took))
      ∙ flat_map-append held_in apart took
      ∙ ap (λ more. flat_map held_in apart ++ more)
      (held_captured closure listed (taken world context closure inner))
      ∙ ap (λ first. first ++ map (held_as closure listed) (taken world context closure inner))
      (held_apart inner)

  -- what is mentioned around a closure
  pub mentioned_closed : flat_map mentioned (closed world context closure listed inner)
      ≡ own_mentions closure inner
  mentioned_closed =
      flat_map-append mentioned (apart ++ took) saw
      ∙ ap (λ first. first ++ flat_map mentioned saw)
      (flat_map-append mentioned apart took
      ∙ ap (λ first. first ++ flat_map mentioned took) (mentioned_apart inner)
      ∙ mentioned_captured closure listed (taken world context closure inner))
      ∙ mentioned_all (own_mentions closure inner)

  -- What a closure takes is what is noted of its key, where nothing inside is noted of that.
  pub held_of_closed : held_of closure inner ≡ []
      → held_of closure (closed world context closure listed inner)
      ≡ map (held_as closure listed) (taken world context closure inner)
  held_of_closed none =
      ap (filter (λ (one : Held). one.closure == closure)) held_closed
      ∙ filter-append (λ (one : Held). one.closure == closure) (flat_map held_in inner)
      (map (held_as closure listed) (taken world context closure inner))
      ∙ ap (λ first. first ++ filter (λ (one : Held). one.closure == closure)
      (map (held_as closure listed) (taken world context closure inner))) none
      ∙ kept_map (λ (one : Held). one.closure == closure) (held_as closure listed)
      (taken world context closure inner)
      ∙ ap (map (held_as closure listed))
      (kept_all (λ (one : Mention). closure == closure) (λ one. same_key closure closure refl)
      (taken world context closure inner))

-- So are its captures in the tables, where all that is noted of its key is noted of it.
pub captures_are : (tables : Tables) (all notes : List Note)
    → tables.isolation ≡ isolation_in all → (closure : ℕ) (listed : List ℕ)
    (takes : List Mention) → held_of closure all ≡ held_of closure notes
    → held_of closure notes ≡ map (held_as closure listed) takes
    → tables.isolation.captures_of closure ≡ map (capture_as all closure listed) takes
captures_are tables all notes noted closure listed takes alone own =
    captures_are_held tables all noted closure
    ∙ ap (map (capture_of (vars_in all))) (alone ∙ own)
    ∙ maps takes where
      maps : (takes : List Mention)
          → map (capture_of (vars_in all)) (map (held_as closure listed) takes)
          ≡ map (capture_as all closure listed) takes
      maps [] = refl
      maps (one ∷ more) = ap (λ rest. capture_as all closure listed one ∷ rest) (maps more)
