-- One turn of the loops that play a paper: what is left is the event at hand, and what is left after it. Assumes nothing.
use mathlib.Core.Path.{◌≡◌, ◌∙◌}
use mathlib.Core.List.{List, ◌∷◌, ◌++◌, map, append_assoc, append-nil}
use Prim.Native.Nat.{ℕ, suc, ◌+◌, ◌-◌, ◌*◌, ◌≤◌, ◌<◌}
use native.Mathlib.Omega.{arith}
use lib.ListN.{length, take, drop, length-drop, length-append}
use lib.Seq.{take_all, take_at, drop_at, length-take-le, drop-length, drop-drop}
use Rattle.rules.specs.Step.{step_of}
use Rattle.rules.specs.Play.{answers_from}
use Rattle.rules.specs.declared.state.State.{State}
use Rattle.rules.specs.declared.state.Event.{Event}
use Rattle.turns.specs.Turn.{state_in, Turned}
use Rattle.papers.specs.Bytes.{run, sixteens_from}
use Rattle.papers.specs.Events.{event_at, events_from}
use Rattle.papers.specs.Answers.{answer_bytes, reply_bytes}
use Rattle.papers.proofs.Fits.{reply-step}

-- the places of the n - i events from the one at hand on
abbrev pub left : State → List ℕ → ℕ → ℕ → List (List ℕ)
left t p n i = map answer_bytes (answers_from t (events_from p (12 + 20 * i) (n - i)))

-- ---- the event at hand and what is left after it

left_one : (s : State) (p : List ℕ) (n i : ℕ) → i < n
    → left s p n i ≡ answer_bytes (step_of s (event_at p (12 + 20 * i))).answer ∷ left (step_of s (event_at p (12 + 20 * i))).state p n (i + 1)
left_one s p n i h =
    let e : n - i ≡ suc (n - (i + 1)) = omega arith in
    let f : 12 + 20 * (i + 1) ≡ 12 + 20 * i + 20 = omega arith in
    rw (e, f)

-- as it is played: its four numbers, and what is left in the state after it
pub left-played : (p : List ℕ) (n i : ℕ) {m t out after rows : List ℕ} {e : Event} → i < n → e ≡ event_at p (12 + 20 * i) → Turned m t e out after rows
    → left (state_in m t) p n i ≡ reply_bytes out ∷ left (state_in after rows) p n (i + 1)
left-played p n i {m} {t} {out} {after} {rows} {e} h k u =
    let b : reply_bytes out ≡ answer_bytes (step_of (state_in m t) e).answer = rw u.answer (reply-step (state_in m t) e) in
    rw (b, u.state, k) (left_one (state_in m t) p n i h)

pub sheet-one : (s : List ℕ) (n i : ℕ) → i < n → sixteens_from s (6 + 16 * i) (n - i) ≡ run s (6 + 16 * i) 16 ∷ sixteens_from s (6 + 16 * (i + 1)) (n - (i + 1))
sheet-one s n i h =
    let e : n - i ≡ suc (n - (i + 1)) = omega arith in
    let f : 6 + 16 * (i + 1) ≡ 6 + 16 * i + 16 = omega arith in
    rw (e, f)

-- ---- buffers

-- the tail of a buffer from `at` on comes back with e at its start
module _ (o e y : List ℕ) (at n : ℕ) (h : at + n ≤ length o) (l : length e ≡ n)
    (g : y ≡ e ++ drop n (take (length o - at) (drop at o))) where
  pub whole : take at o ++ (y ++ drop (length o - at) (drop at o)) ≡ (take at o ++ e) ++ drop (at + n) o
  whole =
      let m : length (drop at o) ≤ length o - at = simp length-drop (omega arith) in
      let k : length (drop at o) ≡ length o - at = length-drop at o in
      rw (g, take_all (length o - at) (drop at o), ← k, drop-length, append-nil, drop-drop, append_assoc)

  front : length (take at o ++ e) ≡ at + n
  front = length-append (take at o) e ∙ rw (l, length-take-le at o (omega arith))

  pub tail-take : take (at + n) (take at o ++ (y ++ drop (length o - at) (drop at o))) ≡ take at o ++ e
  tail-take = rw whole (take_at (take at o ++ e) (drop (at + n) o) (at + n) front)

  pub tail-drop : drop (at + n) (take at o ++ (y ++ drop (length o - at) (drop at o))) ≡ drop (at + n) o
  tail-drop = rw whole (drop_at (take at o ++ e) (drop (at + n) o) (at + n) front)

-- a header, then the rest
pub key-put : (o o₁ h e y : List ℕ) (n : ℕ) → o₁ ≡ h ++ drop 6 o → length h ≡ 6 → length e ≡ n → 6 + n ≤ length o₁
    → y ≡ e ++ drop n (take (length o₁ - 6) (drop 6 o₁)) → take 6 o₁ ++ (y ++ drop (length o₁ - 6) (drop 6 o₁)) ≡ h ++ e ++ drop (6 + n) o
key-put o o₁ h e y n f lh le r g =
    let t : take 6 o₁ ≡ h = rw f (take_at h (drop 6 o) 6 lh) in
    let d : drop (6 + n) o₁ ≡ drop (6 + n) o = rw (f, ← drop-drop n 6 (h ++ drop 6 o), drop_at h (drop 6 o) 6 lh) (drop-drop n 6 o) in
    whole o₁ e y 6 n r le g ∙ rw (t, d)
