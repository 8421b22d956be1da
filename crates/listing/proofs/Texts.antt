-- The text of a trace, by what is left to list.
use Rattle.std.proofs.Common.{◌≡◌, ℕ, ◌+◌, ◌<◌, ◌≤◌, List, [], ◌∷◌, ◌++◌, length, take, codes, sym, refl, ap, ◌∙◌, inl, inr, append_assoc, arith}
use Rattle.std.proofs.lemmas.List.{length-take-le, take_all}
use Rattle.std.proofs.lemmas.Bool.{cases_lt, le-ltb, lt-ltb}
use Rattle.std.specs.Fmt.{digits}
use Rattle.records.specs.Instance.{Instance}
use Rattle.trace.proofs.Walks.{ahead, finds_all}
use Rattle.trace.specs.Traces.{Walk, whole}
use Rattle.listing.specs.Lines.{Lists, Suffice, line, lines, listing, refused_text}
use Rattle.listing.specs.declared.fault.ListFault.TheVariants.{TooLong}

-- the text of a walk after n records
abbrev pub told : ℕ → Walk → List ℕ
told n w = lines n w.taken w.stop

too_long_text : refused_text TooLong ++ codes "\n" ≡ codes "refused 48 at 65536\n"
unfolding digits
too_long_text = refl

pub too_long : (bs : List ℕ) → 65536 < length bs → listing bs ≡ refused_text TooLong ++ codes "\n"
too_long bs h = rw (lt-ltb 65536 (length bs) h)

pub short : (bs : List ℕ) → length bs ≤ 65536 → listing bs ≡ told 0 (whole bs)
short bs h = rw (le-ltb 65536 (length bs) h)

pub lists : (bs : List ℕ) → Lists bs
lists bs = record {
  long = λ h. too_long bs h ∙ too_long_text;
  short = λ h. ((whole bs).taken, (whole bs).stop, (finds_all bs).ends, short bs h);
  exact = λ h is q. short bs h ∙ ap (told 0) ((finds_all bs).spelled is q);
}

-- one byte more than a trace has tells that it is too long
pub suffice : Suffice 65537
suffice bs =
    elim (cases_lt 65536 (length bs)) [
      | inl h ↦
          too_long (take 65537 bs) (omega (arith, length-take-le 65537 bs (omega arith))) ∙ sym (too_long bs h)
      | inr h ↦
          ap listing (take_all 65537 bs (omega arith))
    ]

-- one line more
pub told_more : (bs cs whole : List ℕ) (n : ℕ) (i : Instance) (w v : Walk) → w ≡ ahead (i ∷ []) v → bs ++ told n w ≡ whole → cs ≡ line (n + 1) i → (bs ++ cs) ++ told (n + 1) v ≡ whole
told_more bs cs whole n i w v e q r =
    append_assoc bs cs (told (n + 1) v)
    ∙ (ap (λ (l : List ℕ). bs ++ (l ++ told (n + 1) v)) r
    ∙ (ap (λ (x : Walk). bs ++ told n x) (sym e) ∙ q))

-- the last line
pub told_to_the_end : (bytes bs : List ℕ) (n : ℕ) (w v : Walk) → length bytes ≤ 65536 → w ≡ v → bs ++ told n w ≡ told 0 (whole bytes) → bs ++ told n v ≡ listing bytes
told_to_the_end bytes bs n w v fits e q = ap (λ (x : Walk). bs ++ told n x) (sym e) ∙ (q ∙ sym (short bytes fits))
