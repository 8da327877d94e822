-- What holds of a row with stuff bits: how long it is (`length-stuff_most`), that no run in it is longer than five and each of five
-- is ended by a stuff bit (`stuff_runs`, `five_then_other`), and that the stuff bits can be taken out again (`unstuff-stuff`).
-- Rests on nothing but the definitions.
use Rattle.std.proofs.Common.{◌≡◌, ℕ, suc, ◌+◌, ◌*◌, ◌≤◌, Bool, true, false, cond, not, List, [], ◌∷◌, ◌++◌, length, replicate, sym, refl, ap, arith, true-eqb, false-eqb}
use Rattle.bits.specs.Bits.{differ}
use Rattle.frame.specs.Stuffing.{run, due, stuff, unstuff}

-- ---- runs

pub run_most : (b : Bool) (n : ℕ) (c : Bool) → run b n c ≤ suc n
unfolding run differ
run_most true n true = omega arith
run_most true n false = omega arith
run_most false n true = omega arith
run_most false n false = omega arith

pub run_least : (b : Bool) (n : ℕ) (c : Bool) → 1 ≤ run b n c
unfolding run differ
run_least true n true = omega arith
run_least true n false = omega arith
run_least false n true = omega arith
run_least false n false = omega arith

pub run_other : (b : Bool) (n : ℕ) → run b n (not b) ≡ 1
unfolding run differ
run_other true n = refl
run_other false n = refl

pub run_like : (b : Bool) (n : ℕ) → run b n b ≡ suc n
unfolding run differ
run_like true n = refl
run_like false n = refl

pub due_is : (n : ℕ) → due n ≡ true → n ≡ 5
due_is n e = true-eqb n 5 (sym e)

pub not-due : (n : ℕ) → due n ≡ false → n ≡ 5 → ⊥
not-due n e = false-eqb n 5 (sym e)

-- ---- how long it is

-- from one stuff bit to the next there are four bits more; of the first five like bits n are there already
abbrev pub Most : Bool → ℕ → List Bool → Type 0
Most b n cs = 1 ≤ n → n ≤ 4 → 4 * length (stuff b n cs) + 1 ≤ 5 * length cs + n

most_due :
    (c : Bool) (n m : ℕ) (cs : List Bool) (t : Bool) → due m ≡ t → 1 ≤ m → m ≤ suc n → n ≤ 4 → Most (not c) 1 cs → Most c m cs →
    4 * suc (length (cond t (not c ∷ stuff (not c) 1 cs) (stuff c m cs))) + 1 ≤ 5 * suc (length cs) + n
most_due c n m cs true e l h k stuffed plain =
    let five : m ≡ 5 = due_is m e in
    let rest : 4 * length (stuff (not c) 1 cs) + 1 ≤ 5 * length cs + 1 = stuffed (omega arith) (omega arith) in
    omega (arith, five, rest)
most_due c n m cs false e l h k stuffed plain =
    let none : m ≡ 5 → ⊥ = not-due m e in
    let rest : 4 * length (stuff c m cs) + 1 ≤ 5 * length cs + m = plain l (omega (arith, none)) in
    omega (arith, rest)

pub length-stuff_most : (b : Bool) (n : ℕ) (cs : List Bool) → Most b n cs
unfolding stuff
length-stuff_most b n [] l h = omega arith
length-stuff_most b n (c ∷ cs) l h =
    most_due c n (run b n c) cs (due (run b n c)) refl (run_least b n c) (run_most b n c) h (length-stuff_most (not c) 1 cs) (length-stuff_most c (run b n c) cs)

least_due :
    (c : Bool) (m : ℕ) (cs : List Bool) (t : Bool) → length cs ≤ length (stuff (not c) 1 cs) → length cs ≤ length (stuff c m cs) →
    length cs ≤ length (cond t (not c ∷ stuff (not c) 1 cs) (stuff c m cs))
least_due c m cs true stuffed plain = omega arith
least_due c m cs false stuffed plain = plain

pub length-stuff_least : (b : Bool) (n : ℕ) (cs : List Bool) → length cs ≤ length (stuff b n cs)
unfolding stuff
length-stuff_least b n [] = omega arith
length-stuff_least b n (c ∷ cs) =
    let rest = least_due c (run b n c) cs (due (run b n c)) (length-stuff_least (not c) 1 cs) (length-stuff_least c (run b n c) cs) in
    omega (arith, rest)

-- ---- no six like bits

-- a row behind n bits like b in which no run is longer than five, and the last one is shorter
abbrev pub Runs : Bool → ℕ → List Bool → Type 0
Runs b n [] = n ≤ 4
Runs b n (c ∷ cs) = (run b n c ≤ 5) × Runs c (run b n c) cs

runs_due :
    (c : Bool) (m : ℕ) (cs : List Bool) (t : Bool) → due m ≡ t → m ≤ 5 → Runs (not c) 1 (stuff (not c) 1 cs) → (m ≤ 4 → Runs c m (stuff c m cs)) →
    Runs c m (cond t (not c ∷ stuff (not c) 1 cs) (stuff c m cs))
runs_due c m cs true e h stuffed plain = rw (run_other c m) (omega arith, stuffed)
runs_due c m cs false e h stuffed plain =
    let none : m ≡ 5 → ⊥ = not-due m e in
    plain (omega (arith, none))

pub stuff_runs : (b : Bool) (n : ℕ) (cs : List Bool) → n ≤ 4 → Runs b n (stuff b n cs)
unfolding stuff
stuff_runs b n [] h = h
stuff_runs b n (c ∷ cs) h =
    let short : run b n c ≤ 5 = omega (arith, run_most b n c) in
    (short, runs_due c (run b n c) cs (due (run b n c)) refl short (stuff_runs (not c) 1 cs (omega arith)) (stuff_runs c (run b n c) cs))

-- behind a run of five the row goes on, and with a bit of the other kind
run_ends : (d : Bool) (m : ℕ) (v : List Bool) → 5 ≤ m → Runs d m v → (w : List Bool) × (v ≡ not d ∷ w)
unfolding run differ
run_ends d m [] h runs = absurd (omega (arith, h, runs))
run_ends true m (true ∷ w) h (short, runs) = absurd (omega (arith, h, short))
run_ends true m (false ∷ w) h runs = (w, refl)
run_ends false m (true ∷ w) h runs = (w, refl)
run_ends false m (false ∷ w) h (short, runs) = absurd (omega (arith, h, short))

-- a like bit makes a run longer by one
run_up : (d : Bool) (m : ℕ) (v : List Bool) → Runs d m (d ∷ v) → Runs d (suc m) v
run_up d m v (short, runs) = rw (run_like d m) at runs

five_first : (b : Bool) (n : ℕ) (d : Bool) (v : List Bool) → Runs b n (replicate 5 d ++ v) → (w : List Bool) × (v ≡ not d ∷ w)
five_first b n d v (short, runs) =
    run_ends d (suc (suc (suc (suc (run b n d))))) v (omega (arith, run_least b n d))
    (run_up d _ v (run_up d _ (d ∷ v) (run_up d _ (d ∷ d ∷ v) (run_up d _ (d ∷ d ∷ d ∷ v) runs))))

pub five_then_other :
    (b : Bool) (n : ℕ) (d : Bool) (u v : List Bool) → Runs b n (u ++ (replicate 5 d ++ v)) → (w : List Bool) × (v ≡ not d ∷ w)
five_then_other b n d [] v runs = five_first b n d v runs
five_then_other b n d (c ∷ u) v (short, runs) = five_then_other c (run b n c) d u v runs

-- ---- stuff bits taken out

-- the row itself comes first, whatever stands behind it, and nothing follows if nothing does
abbrev pub Out : Bool → ℕ → List Bool → List Bool → Type 0
Out b n cs w = (r : List Bool) × (unstuff b n (stuff b n cs ++ w) ≡ cs ++ r) × (w ≡ [] → r ≡ [])

out_due :
    (c : Bool) (m : ℕ) (cs w : List Bool) (t : Bool) → due m ≡ t → Out (not c) 1 cs w → (due m ≡ false → Out c m cs w) →
    (r : List Bool) × (unstuff c m (cond t (not c ∷ stuff (not c) 1 cs) (stuff c m cs) ++ w) ≡ cs ++ r) × (w ≡ [] → r ≡ [])
unfolding unstuff
out_due c m cs w true e stuffed plain = rw (e, run_other c m) stuffed
out_due c m cs w false e stuffed plain = plain e

pub unstuff-stuff : (b : Bool) (n : ℕ) (cs w : List Bool) → due n ≡ false → Out b n cs w
unfolding stuff unstuff
unstuff-stuff b n [] w e = (unstuff b n w, refl, λ none. rw none)
unstuff-stuff b n (c ∷ cs) w e =
    let (r, fits, none) = out_due c (run b n c) cs w (due (run b n c)) refl (unstuff-stuff (not c) 1 cs w refl) (unstuff-stuff c (run b n c) cs w) in
    (r, rw e (ap (λ s. c ∷ s) fits), none)
