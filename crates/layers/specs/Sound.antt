-- The layers over sound sources are sound.
use Rattle.std.specs.Prelude.{◌≡◌, ℕ, zero, suc, ◌+◌, ◌*◌, ◌/◌, ◌≤◌, min, max, List, ◌++◌, length, nat_le, All}
use Rattle.std.proofs.Common.{arith, length-append}
use Rattle.std.proofs.lemmas.Nat.{div-add-mod', mul-le}
use Rattle.std.proofs.lemmas.List.Elements.{All-append, All-nil}
use Rattle.std.proofs.lemmas.Bool.{cond_both, leb-true}
use Rattle.records.specs.Instance.{Instance}
use Rattle.sources.specs.Sound.{Fitting, Sound}
use Rattle.layers.specs.Lists.{copies, joined, repeated, turns}

pub length_copies : (n : ℕ) (l : List Instance) → length (copies n l) ≡ n * length l
unfolding copies
length_copies zero l = omega arith
length_copies (suc n) l = omega (arith, length-append l (copies n l), length_copies n l)

all_copies : (P : Instance → Type 0) (n : ℕ) (l : List Instance) → All P l → All P (copies n l)
unfolding copies
all_copies P zero l h = All-nil P
all_copies P (suc n) l h = All-append P l (copies n l) h (all_copies P n l h)

-- so many turns have at most 65,535 instances
turns_short : (n k : ℕ) → turns n k * k ≤ 65535
turns_short n zero = omega arith
turns_short n (suc m) = omega (arith, div-add-mod' 65535 (suc m), mul-le (min n (65535 / suc m)) (suc m) (65535 / suc m) (suc m) (omega arith) (omega arith))

pub repeated_sound : (n : ℕ) {C : ℕ} {l : List Instance} → Sound C l → Sound C (repeated n l)
repeated_sound n {C} {l} s =
    record {
      some_cells = s.some_cells;
      few_cells = s.few_cells;
      short = omega (arith, length_copies (turns n (length l)) l, turns_short n (length l));
      fitting = all_copies (Fitting C) (turns n (length l)) l s.fitting;
    }

-- what fits among few cells fits among more
fits_more : (C D : ℕ) → C ≤ D → (i : Instance) → Fitting C i → Fitting D i
fits_more C D h i f =
    record {
      recordable = f.recordable;
      written_below = omega (arith, f.written_below);
      reads_below = λ k d b. omega (arith, f.reads_below k d b);
    }

-- and what is sound
more_cells : (C D : ℕ) (l : List Instance) → C ≤ D → D ≤ 4096 → Sound C l → Sound D l
more_cells C D l h few s =
    record {
      some_cells = omega (arith, s.some_cells);
      few_cells = few;
      short = s.short;
      fitting = λ k d b. fits_more C D h _ (s.fitting k d b);
    }

pub joined_sound : {C D : ℕ} {l m : List Instance} → Sound C l → Sound D m → Sound (max C D) (joined l m)
joined_sound {C} {D} {l} {m} s t =
    let first = more_cells C (max C D) l (omega arith) (omega (arith, s.few_cells, t.few_cells)) s in
    let second = more_cells D (max C D) m (omega arith) (omega (arith, s.few_cells, t.few_cells)) t in
    cond_both (nat_le (length l + length m) 65535) (l ++ m) l (Sound (max C D))
    (λ fit. record {
      some_cells = first.some_cells;
      few_cells = first.few_cells;
      short = omega (arith, length-append l m, leb-true (length l + length m) 65535 fit);
      fitting = All-append (Fitting (max C D)) l m first.fitting second.fitting;
    })
    (λ _. first)
