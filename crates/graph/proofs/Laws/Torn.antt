-- Where each bond goes by its step modulo the extent, every closed walk sums to a multiple of the extent, so torn is never set.
use Rattle.std.specs.Prelude.{◌≡◌, refl, Bool, true, false, cond, ◌||◌, ℕ, ◌+◌, ◌%◌, eqb, ℤ, pos, ◌+ℤ◌, ◌-ℤ◌, nat_abs}
use Rattle.std.proofs.Common.{sym, ◌∙◌, subst}
use Rattle.std.proofs.Math.Path.{ap}
use Rattle.std.proofs.Math.Bool.{not}
use mathlib.Core.List.{List, Memᴰ}
use Rattle.graph.specs.Forest.{Bond}
use Rattle.graph.specs.Winding.{Winding, root, still, attach, close, around, wind, winding, along}
use Rattle.graph.specs.Walk.{Walk, stay, ahead, back, Within, Multiple}
use Rattle.graph.proofs.Laws.Ints.{multiple-zero, multiple-rest, multiple-add, multiple-neg, multiple-mod, sum-stay, sum-ahead, sum_back, sum-closed}
use Rattle.graph.proofs.Laws.Lookup.{eqb_yes}
use Rattle.graph.proofs.Laws.Trees.{Good, good-still, wind-cases, winds-keep}
use Rattle.graph.proofs.Laws.Kept.{Reached, reached-still, reached-wind, bridge}

-- the bond c goes by its step, modulo the extent e, in the coordinate
abbrev pub Goes : ℕ → (Bond → ℤ) → (ℕ → ℤ) → Bond → Type 0
Goes e step coord c = Multiple e (coord c.x +ℤ step c -ℤ coord c.y)

module _ (step : Bond → ℤ) (e n : ℕ) (bonds : List Bond) (coord : ℕ → ℤ) (goes : (c : Bond) → Memᴰ c bonds → Goes e step coord c) where
  pub walk-multiple : {a b : ℕ} {z : ℤ} → Walk step bonds a b z → Multiple e (coord a +ℤ z -ℤ coord b)
  walk-multiple {a} stay = subst (Multiple e) (sym (sum-stay (coord a))) (multiple-zero e)
  walk-multiple {a} (ahead {z = z} c m v) =
      subst (Multiple e) (sym (sum-ahead (coord a) z (coord c.x) (step c) (coord c.y)))
      (multiple-add e _ _ (walk-multiple v) (goes c m))
  walk-multiple {a} (back {z = z} c m v) =
      subst (Multiple e) (sym (sum_back (coord a) z (coord c.x) (step c) (coord c.y)))
      (multiple-add e _ _ (walk-multiple v) (multiple-neg e _ (goes c m)))

  pub closed-multiple : {a : ℕ} {z : ℤ} → Walk step bonds a a z → Multiple e z
  closed-multiple {a} {z} v = subst (Multiple e) (sum-closed (coord a) z) (walk-multiple v)

  whole : (d : ℤ) → Multiple e d → not (eqb (nat_abs d % e) 0) ≡ false
  whole d k = ap not (eqb_yes (nat_abs d % e) 0 (multiple-mod e d k))

  kept : Within n bonds → (s : Winding) (c : Bond) → Memᴰ c bonds → Good n s
      → Reached step e n bonds s × (s.torn ≡ false) → Reached step e n bonds (wind step e s c) × ((wind step e s c).torn ≡ false)
  unfolding close attach
  kept within s c m good (r, t) = (
    reached-wind step e n bonds within s c m good r,
    wind-cases step e (λ (u : Winding). u.torn ≡ false) s c
        (λ k. ap (λ (b : Bool). b || not (eqb (nat_abs (around step e s c) % e) 0)) t ∙ whole (around step e s c) (closed-multiple
        (subst (λ (b : ℕ). Walk step bonds (root s c.x) b (around step e s c)) (sym k) (bridge step e n bonds s c m (within c m).0 (within c m).1 r))))
        (λ w l d _. t),
  )

  -- Torn is never set.
  pub torn-never : Within n bonds → (winding step e n bonds).torn ≡ false
  unfolding winding still
  torn-never within =
      (winds-keep step e n bonds within (λ (s : Winding). Reached step e n bonds s × (s.torn ≡ false)) (kept within) bonds (λ c m. m) (still n)
      (good-still n) (reached-still step e n bonds, refl)).1.1

-- a forward bond of a lattice: one further on its own axis, modulo the extent, and unmoved on the others
pub goes-forward : (d e : ℕ) (coord : ℕ → ℕ) (c : Bond) → coord c.y ≡ (coord c.x + cond (eqb c.axis d) 1 0) % e
    → Goes e (along d) (λ i. pos (coord i)) c
unfolding along
goes-forward d e coord c h = go (eqb c.axis d) h
  where
    go : (b : Bool) → coord c.y ≡ (coord c.x + cond b 1 0) % e → Multiple e (pos (coord c.x) +ℤ cond b (pos 1) (pos 0) -ℤ pos (coord c.y))
    go true h = multiple-rest e (coord c.x + 1) (coord c.y) h
    go false h = multiple-rest e (coord c.x + 0) (coord c.y) h
