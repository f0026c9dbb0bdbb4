-- What the closures and the tasks with a key hold: where it is noted as isolated to `self`, `self`
-- first.
use Rattle.std.proofs.Common.{◌≡◌, ℕ, zero, suc, ◌+◌, ◌≤◌, ◌<◌, Bool, true, List, [], ◌∷◌}
use Rattle.std.proofs.Common.{◌++◌, map, refl, ap, sym, ◌∙◌, subst, arith}
use Rattle.sw_tree.proofs.Counting.{hits, hits_same}
use Rattle.sw_typing_rules.specs.Worlds.{World}
use Rattle.sw_isolation_rules.specs.Answers.{Answers}
use Rattle.sw_isolation_rules.specs.Captures.{closed, self_of}
use Rattle.sw_isolation_rules.specs.Kinds.{is_own}
use Rattle.sw_isolation_rules.specs.Noting.{body_note}
use Rattle.sw_isolation_rules.specs.declared.note.Captured.{Captured as Held}
use Rattle.sw_isolation_rules.specs.declared.note.Note.{Note}
use Rattle.sw_isolation_rules.specs.declared.note.Note.TheVariants.{Body, Kind, Refused, Race, Var}
use Rattle.sw_isolation_rules.specs.declared.note.Note.TheVariants.{Mentioned, Captures}
use Rattle.sw_isolation_rules.specs.declared.uses.Context.{Context}
use Rattle.sw_typing_facts.proofs.Lists.Joined.{both_none}
use Rattle.sw_lower_total_facts.specs.Noted.{held_of}
use Rattle.sw_lower_total_facts.proofs.Closures.Noted.{held_as, held_of_closed}
use Rattle.sw_lower_total_facts.proofs.Standing.Closing.{alike_closed}
use Rattle.sw_lower_total_facts.proofs.Standing.Noting.{AreBare, alike_body, bare_lacks, held_join}
use Rattle.sw_isolation_rules.proofs.NotedUses.{of_closed}
use Rattle.sw_lower_call_facts.specs.Owning.{NoteOwn}
use Rattle.sw_lower_call_facts.proofs.BodyNotes.Noted as noted
use Rattle.sw_lower_call_facts.proofs.BodyNotes.Noted.{AllOwn}
use Rattle.sw_lower_call_facts.proofs.Holding.Firsts.{taken_begins}

-- what is held begins with a variable
pub record HeldBegins (me : ℕ) (all : List Held) : Type 0 where
  pub first : Held
  pub more : List Held
  pub are : all ≡ first ∷ more
  pub is : first.mention.variable ≡ me

begins_left : (me : ℕ) (all more : List Held) → HeldBegins me all → HeldBegins me (all ++ more)
begins_left me all more begins = record {
  first = begins.first;
  more = begins.more ++ more;
  are = ap (λ held. held ++ more) begins.are;
  is = begins.is;
}

-- what is good is good by a weaker measure
pub weaker : (G H : ℕ → Type 0) → ((key : ℕ) → G key → H key) → (notes : List Note) → AllOwn G notes
    → AllOwn H notes
weaker G H by [] are = tt
weaker G H by (Body body ∷ notes) are =
    ((λ own. by body.key (are.0 own)), weaker G H by notes are.1)
weaker G H by (Kind kinded ∷ notes) are = (tt, weaker G H by notes are.1)
weaker G H by (Refused one ∷ notes) are = (tt, weaker G H by notes are.1)
weaker G H by (Race one ∷ notes) are = (tt, weaker G H by notes are.1)
weaker G H by (Var key ∷ notes) are = (tt, weaker G H by notes are.1)
weaker G H by (Mentioned one ∷ notes) are = (tt, weaker G H by notes are.1)
weaker G H by (Captures held ∷ notes) are = (tt, weaker G H by notes are.1)

-- no body is noted that is isolated to `self`
abbrev pub Never : ℕ → Type 0
Never key = ⊥

abbrev pub NoBody : List Note → Type 0
NoBody notes = AllOwn Never notes

any_body : (G : ℕ → Type 0) (notes : List Note) → NoBody notes → AllOwn G notes
any_body G notes none = weaker Never G (λ key never. absurd never) notes none

module _ (c me : ℕ) where
  -- What these notes have of the key begins with `self`.
  abbrev pub KeyBegins : List Note → Type 0
  KeyBegins notes = HeldBegins me (held_of c notes)

  -- a key is another one
  abbrev pub IsOther : ℕ → Type 0
  IsOther key = key ≡ c → ⊥

  -- Notes of a tree in which the key stands so often: where it doesn't, nothing is noted of it, and
  -- where it stands once, what is held by a body with it that is isolated to `self` begins so.
  pub record Holding (notes : List Note) (n : ℕ) : Type 0 where
    pub none : n ≡ 0 → held_of c notes ≡ []
    pub free : n ≡ 0 → AllOwn IsOther notes
    pub begins : n ≤ 1 → AllOwn (λ key. key ≡ c → KeyBegins notes) notes

  -- notes without bodies
  pub leaf : (notes : List Note) (n : ℕ) → (n ≡ 0 → held_of c notes ≡ []) → NoBody notes
      → Holding notes n
  leaf notes n none all = record {
    none = none;
    free = λ is. any_body IsOther notes all;
    begins = λ once. any_body (λ key. key ≡ c → KeyBegins notes) notes all;
  }

  pub bare : (notes : List Note) (n : ℕ) → AreBare notes → NoBody notes → Holding notes n
  bare notes n are all = leaf notes n (λ is. (bare_lacks notes c are).held) all

  pub up : (notes : List Note) (a n : ℕ) → Holding notes a → a ≤ n → Holding notes n
  up notes a n here less = record {
    none = λ is. here.none (omega (arith, is, less));
    free = λ is. here.free (omega (arith, is, less));
    begins = λ once. here.begins (omega (arith, once, less));
  }

  -- notes after each other
  pub both : (one other : List Note) (a b n : ℕ) → Holding one a → Holding other b → a + b ≤ n
      → Holding (one ++ other) n
  both one other a b n first second most = record {
    none = λ is.
        held_join c one other
        ∙ both_none _ _ (first.none (omega (arith, is, most)))
        (second.none (omega (arith, is, most)));
    free = λ is.
        noted.join IsOther one other (first.free (omega (arith, is, most)))
        (second.free (omega (arith, is, most)));
    begins = λ once.
        noted.join (λ key. key ≡ c → KeyBegins (one ++ other)) one other
        (weaker (λ key. key ≡ c → KeyBegins one) (λ key. key ≡ c → KeyBegins (one ++ other))
        (λ key begins same. left (begins same)) one (first.begins (omega (arith, once, most))))
        (right b refl once);
  } where
    left : KeyBegins one → KeyBegins (one ++ other)
    left begins =
        subst (HeldBegins me) (sym (held_join c one other))
        (begins_left me (held_of c one) (held_of c other) begins)

    then : a ≡ 0 → KeyBegins other → KeyBegins (one ++ other)
    then is begins =
        subst (HeldBegins me)
        (sym (held_join c one other ∙ ap (λ held. held ++ held_of c other) (first.none is)))
        begins

    right : (k : ℕ) → b ≡ k → n ≤ 1 → AllOwn (λ key. key ≡ c → KeyBegins (one ++ other)) other
    right zero is once =
        weaker IsOther (λ key. key ≡ c → KeyBegins (one ++ other))
        (λ key free same. absurd (free same)) other (second.free is)
    right (suc k) is once =
        weaker (λ key. key ≡ c → KeyBegins other) (λ key. key ≡ c → KeyBegins (one ++ other))
        (λ key begins same. then (omega (arith, is, once, most)) (begins same)) other
        (second.begins (omega (arith, once, most)))

  -- Where a context is isolated to `self`, that is this variable.
  abbrev pub Fits : World → Context → Type 0
  Fits world context = is_own context.iso ≡ true → self_of world context.owner ≡ me ∷ []

  -- A closure or a task: what is noted of its body, and what is noted inside it.
  module _ (world : World) (answers : Answers) (before : me < c) where
    module _ (context : Context) (closure : ℕ) (is_async : Bool) (listed : List ℕ)
        (races inner : List Note) (m n : ℕ) (none : AreBare races)
        (all : NoBody races) (fits : Fits world context)
        (holding : Holding inner m) (most : hits closure c + m ≤ n) where
      abbrev shut : List Note
      shut = closed world context closure listed inner

      abbrev whole : List Note
      whole = body_note closure context.iso is_async ∷ (races ++ shut)

      whole_held : held_of c whole ≡ held_of c shut
      whole_held =
          (alike_body c (record { key = closure; iso = context.iso; is_async = is_async })
          (races ++ shut)).held ∙ held_join c races shut
          ∙ ap (λ held. held ++ held_of c shut) (bare_lacks races c none).held

      abbrev Goes : ℕ → Type 0
      Goes key = key ≡ c → KeyBegins whole

      -- by the good keys inside
      of_inner : (G : ℕ → Type 0) → (is_own context.iso ≡ true → G closure) → AllOwn G inner
          → AllOwn G whole
      of_inner G own are = (
        own,
        noted.join G races shut (any_body G races all)
            (of_closed (NoteOwn G) (noted.leaf_own G) closure world context listed inner are),
      )

      other_key : hits closure c ≡ 0 → IsOther closure
      other_key is same =
          absurd (omega (arith, is, ap (λ at. hits at c) same, hits_same c))

      apart : hits closure c ≡ 0 → Holding whole n
      apart is = record {
        none = λ no. same ∙ holding.none (omega (arith, no, most));
        free = λ no.
            of_inner IsOther (λ own. other_key is) (holding.free (omega (arith, no, most)));
        begins = λ once.
            of_inner Goes (λ own same. absurd (other_key is same))
            (weaker (λ key. key ≡ c → KeyBegins inner) Goes
            (λ key begins here. subst (HeldBegins me) (sym same) (begins here)) inner
            (holding.begins (omega (arith, once, most))));
      } where
        same : held_of c whole ≡ held_of c inner
        same = whole_held ∙ (alike_closed world context closure listed inner c is).held

      first_held : is_own context.iso ≡ true → closure ≡ c → held_of c inner ≡ []
          → KeyBegins whole
      first_held own same empty =
          let begins = taken_begins world context closure inner me own (fits own)
          (subst (λ at. me < at) (sym same) before) in
          subst (HeldBegins me)
          (sym (whole_held
          ∙ ap (λ key. held_of key shut) (sym same)
          ∙ held_of_closed world context closure listed inner
          (ap (λ key. held_of key inner) same ∙ empty)))
          (record {
            first = held_as closure listed begins.first;
            more = map (held_as closure listed) begins.more;
            are = ap (map (held_as closure listed)) begins.are;
            is = begins.is;
          })

      here : (k : ℕ) → hits closure c ≡ suc k → Holding whole n
      here k is = record {
        none = λ no. absurd (omega (arith, no, is, most));
        free = λ no. absurd (omega (arith, no, is, most));
        begins = λ once.
            of_inner Goes
            (λ own same.
            first_held own same (holding.none (omega (arith, once, is, most))))
            (weaker IsOther Goes (λ key free same. absurd (free same)) inner
            (holding.free (omega (arith, once, is, most))));
      }

      pub closing : Holding whole n
      closing = by (hits closure c) refl where
        by : (k : ℕ) → hits closure c ≡ k → Holding whole n
        by zero is = apart is
        by (suc k) is = here k is
