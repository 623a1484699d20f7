-- Where an expression with nothing inside leads from a place of a text: what is known of windows, for the whole text.
use Rattle.std.proofs.Common.{◌≡◌, ◌↔◌, ℕ, ◌+◌, ◌<◌, ◌≤◌, List, length, slice_index, refl, subst, arith}
use Rattle.std.specs.List.{Contains}
use Rattle.ere_tree.specs.Tree.{Tree, plain, set}
use Rattle.ere_tree.specs.Derivation.{Spans, part}
use Rattle.ere_places.specs.declared.window.Direction.TheVariants.{Ahead}
use Rattle.ere_places.specs.declared.window.Window.{Window}
use Rattle.ere_places.specs.Places.{IsInside, LeadsInside}
use Rattle.ere_places.proofs.LeafLemmas.{plain_leads, leads_plain, set_leads, leads_set}
use Rattle.ere_places.proofs.SpanLemmas.{spans_part}

abbrev pub window_of : List ℕ → Window
window_of s = record { low = 0; high = length s; direction = Ahead }

pub inside : (s : List ℕ) (p : ℕ) → p ≤ length s → IsInside (window_of s) p
inside s p low = (omega arith, low)

pub led : (s : List ℕ) (t : Tree) (p q : ℕ) → Spans s t p q → LeadsInside s t (window_of s) p q
led s t p q span = (span, inside s q (spans_part s t p q span).1)

pub led_too : (s : List ℕ) (t : Tree) (p q : ℕ) → LeadsInside s t (window_of s) p q ↔ Spans s t p q
led_too s t p q = (λ h. h.0, led s t p q)

pub bytes_lead : (s bytes : List ℕ) (p : ℕ) → p + length bytes ≤ length s → part s p (p + length bytes) ≡ bytes
    → Spans s (plain bytes) p (p + length bytes)
bytes_lead s bytes p fits is =
    (leads_plain s bytes (window_of s) p (p + length bytes) p (inside s p (omega arith)) (omega arith)
    (refl, refl, fits) is).0

pub bytes_led : (s bytes : List ℕ) (p q : ℕ) → p ≤ length s → Spans s (plain bytes) p q
    → (q ≡ p + length bytes) × (q ≤ length s) × (part s p (p + length bytes) ≡ bytes)
bytes_led s bytes p q low span =
    let r = plain_leads s bytes (window_of s) p q (inside s p low) (omega arith) (led s (plain bytes) p q span) in
    (r.1.1, r.1.2, subst (λ n. part s n (n + length bytes) ≡ bytes) r.1.0 r.2)

pub byte_leads : (s bytes : List ℕ) (p : ℕ) → p < length s → Contains bytes (slice_index s p)
    → Spans s (set bytes) p (p + 1)
byte_leads s bytes p low has =
    (leads_set s bytes (window_of s) p (p + 1) p (inside s p (omega arith)) (omega arith) (refl, refl, omega arith) has).0

pub byte_led : (s bytes : List ℕ) (p q : ℕ) → Spans s (set bytes) p q
    → (q ≡ p + 1) × (q ≤ length s) × Contains bytes (slice_index s p)
byte_led s bytes p q span =
    let r = set_leads s bytes (window_of s) p q (led s (set bytes) p q span) in
    (r.1.1, r.1.2, subst (λ n. Contains bytes (slice_index s n)) r.1.0 r.2)
