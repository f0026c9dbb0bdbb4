-- Bytes are a text of a form or go wrong at a place, where the lines that may stand at a place can
-- be searched.
use Rattle.std.proofs.Common.{◌≡◌, ◌≢◌, ℕ, zero, suc, ◌<◌, ◌≤◌, ◌⊎◌, inl, inr, List, [], ◌∷◌}
use Rattle.std.proofs.Common.{◌++◌, length, take, drop, flat_map, refl, sym, subst, ap, ◌∙◌, arith}
use Rattle.std.proofs.Common.{length-append, append_assoc}
use Rattle.std.proofs.lemmas.Bool.{cases_eq, cases_lt}
use Rattle.std.proofs.lemmas.List.{append-nil, append_cancel_left, nil_from_length}
use Rattle.sw_dictation.specs.Lines.{closer_before, line_text, LineForm, AreLines, IsText, Begins}
use Rattle.sw_dictation.specs.Lines.{IsBadPlace}
use Rattle.sw_dictation.specs.Numbers.{spelled, common_len}
use Rattle.sw_dictation.proofs.Prefixes.{shorter}
use Rattle.sw_dictation.proofs.Sharing.{whole, begins}

-- These can be searched: a fact that can be decided of each holds of one of them, or of none.
abbrev pub Searched : {A : Type 0} → (A → Type 0) → Type 1
Searched {A} IsOne = (P : A → Type 0) → ((a : A) → IsOne a → P a ⊎ (P a → ⊥))
    → ((a : A) × IsOne a × P a) ⊎ ((a : A) → IsOne a → P a → ⊥)

-- the bytes begin with a text
abbrev Starts : List ℕ → List ℕ → Type 0
Starts text bytes = (rest : List ℕ) × (bytes ≡ text ++ rest)

starts_or_not : (text bytes : List ℕ) → Starts text bytes ⊎ (Starts text bytes → ⊥)
starts_or_not text bytes = elim (cases_eq (common_len bytes text) (length text)) [
  | inl all ↦ inl (drop (length text) bytes, whole bytes text all)
  | inr less ↦ inr (λ h. less (ap (λ l. common_len l text) h.1 ∙ begins text h.0))
]

text_some : (line : List ℕ) → line ≢ [] → 0 < length (line_text line)
text_some [] some = absurd (some refl)
text_some (n ∷ ns) some = omega (
  arith,
  length-append (spelled n (closer_before ns)) (line_text ns),
  length-append {A = ℕ},
)

-- ---- what is true of bytes line by line
-- It is true of bytes with this line at their beginning: they end in it, or it is true of the rest.
abbrev Goes : {A : Type 0} → LineForm A → (A → List ℕ → Type 0) → (List ℕ → List ℕ → Type 0)
    → A → List ℕ → List ℕ → Type 0
Goes form F Ends before bytes line = Ends line bytes
    ⊎ ((rest : List ℕ) × (bytes ≡ line_text line ++ rest) × F (form.past before line) rest)

record IsByLines {A : Type 0} (form : LineForm A) (F : A → List ℕ → Type 0)
    (Ends : List ℕ → List ℕ → Type 0) : Type 0 where
  empty : (before : A) → F before []
  ends : (line bytes : List ℕ) → Ends line bytes ⊎ (Ends line bytes → ⊥)
  first : (before : A) (bytes : List ℕ) → bytes ≢ [] → F before bytes
      → (line : List ℕ) × form.IsLine before line × Goes form F Ends before bytes line
  back : (before : A) (bytes line : List ℕ) → form.IsLine before line
      → Goes form F Ends before bytes line → F before bytes

module _ {A : Type 0} (form : LineForm A) where
  texts_by_lines : IsByLines form (IsText form) (λ line bytes. ⊥)
  texts_by_lines = record {
    empty = λ before. record { lines = []; are_lines = tt; spelled = refl };
    ends = λ line bytes. inr (λ h. h);
    first = λ before bytes some text.
        first before bytes some text.lines text.are_lines text.spelled;
    back = λ before bytes line is by. elim by [
      | inl none ↦ absurd none
      | inr (rest, e, text) ↦ record {
        lines = line ∷ text.lines;
        are_lines = (is, text.are_lines);
        spelled = e ∙ ap (λ l. line_text line ++ l) text.spelled;
      }
    ];
  }
    where
      first : (before : A) (bytes : List ℕ) → bytes ≢ [] → (lines : List (List ℕ))
          → AreLines form before lines → bytes ≡ flat_map line_text lines
          → (line : List ℕ) × form.IsLine before line
          × Goes form (IsText form) (λ line bytes. ⊥) before bytes line
      first before bytes some [] are e = absurd (some e)
      first before bytes some (line ∷ lines) are e = (
        line,
        are.0,
        inr (
          flat_map line_text lines,
          e,
          record { lines = lines; are_lines = are.1; spelled = refl },
        ),
      )

  begun_by_lines : IsByLines form (Begins form) (λ line bytes. Starts bytes (line_text line))
  begun_by_lines = record {
    empty = λ before. ([], record { lines = []; are_lines = tt; spelled = refl });
    ends = λ line bytes. starts_or_not bytes (line_text line);
    first = λ before bytes some (more, text).
        first before bytes more some text.lines text.are_lines text.spelled;
    back = λ before bytes line is by. elim by [
      | inl (more, e) ↦ (
        more,
        record {
          lines = line ∷ [];
          are_lines = (is, tt);
          spelled = sym e ∙ sym (append-nil (line_text line));
        },
      )
      | inr (rest, e, (more, text)) ↦ (
        more,
        record {
          lines = line ∷ text.lines;
          are_lines = (is, text.are_lines);
          spelled = ap (λ l. l ++ more) e ∙ append_assoc (line_text line) rest more
              ∙ ap (λ l. line_text line ++ l) text.spelled;
        },
      )
    ];
  }
    where
      first : (before : A) (bytes more : List ℕ) → bytes ≢ [] → (lines : List (List ℕ))
          → AreLines form before lines → bytes ++ more ≡ flat_map line_text lines
          → (line : List ℕ) × form.IsLine before line
          × Goes form (Begins form) (λ line bytes. Starts bytes (line_text line)) before bytes line
      first before bytes more some [] are e = absurd (some
          (nil_from_length bytes (omega (arith, ap length e, length-append bytes more))))
      first before bytes more some (line ∷ lines) are e = (
        line,
        are.0,
        elim (cases_lt (length (line_text line)) (length bytes)) [
          | inl past ↦ (
              let h = shorter (line_text line) bytes (flat_map line_text lines) more (sym e)
              (omega (arith, past)) in
              inr (
                h.0,
                h.1,
                (
                  more,
                  record {
                    lines = lines;
                    are_lines = are.1;
                    spelled = append_cancel_left (line_text line) (h.0 ++ more)
                        (flat_map line_text lines)
                        (sym (append_assoc (line_text line) h.0 more)
                        ∙ ap (λ l. l ++ more) (sym h.1) ∙ e);
                  },
                ),
              )
              )
          | inr within ↦
              inl (shorter bytes (line_text line) more (flat_map line_text lines) e within)
        ],
      )

  -- ---- deciding it
  module _ (some : (before : A) (line : List ℕ) → form.IsLine before line → line ≢ [])
      (search : (before : A) → Searched (form.IsLine before)) where
    module _ (F : A → List ℕ → Type 0) (Ends : List ℕ → List ℕ → Type 0)
        (is : IsByLines form F Ends) where
      -- with this line, if it is decided of what is shorter
      goes_or_not : (before : A) (bytes line : List ℕ) → form.IsLine before line
          → ((rest : List ℕ) → length rest < length bytes
          → F (form.past before line) rest ⊎ (F (form.past before line) rest → ⊥))
          → Goes form F Ends before bytes line ⊎ (Goes form F Ends before bytes line → ⊥)
      goes_or_not before bytes line is_line later = elim (is.ends line bytes) [
        | inl ends ↦ inl (inl ends)
        | inr on ↦ elim (starts_or_not (line_text line) bytes) [
          | inl (rest, e) ↦ elim (later rest (less rest e)) [
            | inl holds ↦ inl (inr (rest, e, holds))
            | inr fails ↦ inr (λ by. elim by [
              | inl ends ↦ on ends
              | inr h ↦ fails (subst (F (form.past before line))
                  (append_cancel_left (line_text line) h.0 rest (sym h.1 ∙ e)) h.2)
            ])
          ]
          | inr other ↦ inr (λ by. elim by [ inl ends ↦ on ends | inr h ↦ other (h.0, h.1) ])
        ]
      ]
        where
          less : (rest : List ℕ) → bytes ≡ line_text line ++ rest → length rest < length bytes
          less rest e = omega (
            arith,
            text_some line (some before line is_line),
            ap length e,
            length-append (line_text line) rest,
          )

      holds_or_not : (fuel : ℕ) (before : A) (bytes : List ℕ) → length bytes ≤ fuel
          → F before bytes ⊎ (F before bytes → ⊥)
      holds_or_not fuel before [] le = inl (is.empty before)
      holds_or_not zero before (b ∷ bytes) le = absurd (omega (arith, le))
      holds_or_not (suc fuel) before (b ∷ bytes) le =
          elim (search before (Goes form F Ends before (b ∷ bytes))
          (λ line is_line. goes_or_not before (b ∷ bytes) line is_line
          (λ rest lt. holds_or_not fuel (form.past before line) rest (omega (arith, lt, le))))) [
            | inl (line, is_line, by) ↦ inl (is.back before (b ∷ bytes) line is_line by)
            | inr none ↦ inr (λ holds.
                let h = is.first before (b ∷ bytes) (λ e. cc) holds in none h.0 h.1 h.2)
          ]

    begins_or_not : (before : A) (bytes : List ℕ)
        → Begins form before bytes ⊎ (Begins form before bytes → ⊥)
    begins_or_not before bytes = holds_or_not (Begins form)
        (λ line bytes. Starts bytes (line_text line)) begun_by_lines (length bytes) before bytes
        (omega arith)

    -- the last place up to one behind which none begins
    last_place : (before : A) (bytes : List ℕ) → ¬ (IsText form before bytes) → (n : ℕ)
        → n ≤ length bytes → (n < length bytes → ¬ (Begins form before (take (suc n) bytes)))
        → (at : ℕ) × IsBadPlace form before bytes at
    last_place before bytes no_text zero within stops = (
      zero,
      record {
        within = within;
        begins = begun_by_lines.empty before;
        stops = stops;
        no_text = no_text;
      },
    )
    last_place before bytes no_text (suc n) within stops =
        elim (begins_or_not before (take (suc n) bytes)) [
          | inl begins ↦ (
            suc n,
            record { within = within; begins = begins; stops = stops; no_text = no_text },
          )
          | inr not ↦ last_place before bytes no_text n (omega (arith, within)) (λ inside. not)
        ]

    pub text_or_place : (before : A) (bytes : List ℕ)
        → IsText form before bytes ⊎ ((at : ℕ) × IsBadPlace form before bytes at)
    text_or_place before bytes = elim (holds_or_not (IsText form) (λ line bytes. ⊥) texts_by_lines
        (length bytes) before bytes (omega arith)) [
          | inl text ↦ inl text
          | inr no_text ↦ inr (last_place before bytes no_text (length bytes) (omega arith)
              (λ inside. absurd (omega (arith, inside))))
        ]
