-- A case split on what is decided, that needs no helper of its own.
abbrev pub by-dec {ℓ ℓ'} : {A : Type ℓ} {C : Type ℓ'} → Dec A → (A → C) → ((A → ⊥) → C) → C
by-dec (yes a) f g = f a
by-dec (no n) f g = g n
