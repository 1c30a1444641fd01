-- Reserved words and names, and what may stand behind them.
use Rattle.std.proofs.Common.{◌≡◌, ℕ, ◌-◌, ◌<◌, ◌==◌, Bool, true, false, ◌||◌, List, [], ◌∷◌, ◌++◌, length, take, refl, ap, ◌∙◌, sym, arith}
use Rattle.std.specs.Prelude.{codes}
use Rattle.std.specs.Char.{is_ascii_alphabetic, is_ascii_alphanumeric}
use Rattle.std.proofs.lemmas.Str.{encode_ascii}
use lib.Utf8.{low_scalar}
use Rattle.unicode_ident.proofs.IdentLemmas.{is_xid_start-ascii, is_xid_continue-ascii}
use Rattle.fb_lex.specs.declared.tokens.Kind.TheVariants as k
use Rattle.fb_lex.specs.Tokens.{BeginsWithCharacter, Continued, word_kind, Front, IsName}
use Rattle.fb_lex.proofs.Characters.{continued_none, continued_more}
use Rattle.fb_lex.proofs.Names.{front_any}
use Rattle.fb_write.proofs.Ahead.{is_apart, ends_apart, front_before}

pub ascii_begins : (c : ℕ) (text : List ℕ) → c < 128 → BeginsWithCharacter (c ∷ text) c text
ascii_begins c text l = record { scalar = low_scalar c (omega (arith, l)); split = sym (ap (λ v. v ++ text) (encode_ascii c l)) }

none : Continued [] []
none = continued_none (ends_apart [] refl)

letter : (c : ℕ) {text : List ℕ} → c < 128 → (is_ascii_alphanumeric c || c == 95) ≡ true → Continued text [] → Continued (c ∷ text) []
letter c {text} l h w = continued_more (ascii_begins c text l) (rw (is_xid_continue-ascii c l, h) refl) w

word : (c : ℕ) (text : List ℕ) (t : Bool) → c < 128 → is_ascii_alphabetic c ≡ true → Continued text [] → Front t (c ∷ text) (word_kind (take (length (c ∷ text) - 0) (c ∷ text))) []
word c text t l h w = Front.word (ascii_begins c text l) (is_xid_start-ascii c l ∙ h) w

-- The reserved words.
box_front : (t : Bool) → Front t (codes "box") k.Box_ []
box_front t = word 98 (codes "ox") t (omega arith) refl (letter 111 (omega arith) refl (letter 120 (omega arith) refl none))

fun_front : (t : Bool) → Front t (codes "fun") k.Fun []
fun_front t = word 102 (codes "un") t (omega arith) refl (letter 117 (omega arith) refl (letter 110 (omega arith) refl none))

all_front : (t : Bool) → Front t (codes "all") k.All []
all_front t = word 97 (codes "ll") t (omega arith) refl (letter 108 (omega arith) refl (letter 108 (omega arith) refl none))

prim_front : (t : Bool) → Front t (codes "prim") k.Prim []
prim_front t = word 112 (codes "rim") t (omega arith) refl (letter 114 (omega arith) refl (letter 105 (omega arith) refl (letter 109 (omega arith) refl none)))

by_front : (t : Bool) → Front t (codes "by") k.By []
by_front t = word 98 (codes "y") t (omega arith) refl (letter 121 (omega arith) refl none)

-- behind each stands what doesn't go on with it
pub box_stands : (t : Bool) (w : List ℕ) → is_apart w ≡ true → Front t (codes "box" ++ w) k.Box_ w
box_stands t w h = front_before w (box_front t) refl h

pub fun_stands : (t : Bool) (w : List ℕ) → is_apart w ≡ true → Front t (codes "fun" ++ w) k.Fun w
fun_stands t w h = front_before w (fun_front t) refl h

pub all_stands : (t : Bool) (w : List ℕ) → is_apart w ≡ true → Front t (codes "all" ++ w) k.All w
all_stands t w h = front_before w (all_front t) refl h

pub prim_stands : (t : Bool) (w : List ℕ) → is_apart w ≡ true → Front t (codes "prim" ++ w) k.Prim w
prim_stands t w h = front_before w (prim_front t) refl h

pub by_stands : (t : Bool) (w : List ℕ) → is_apart w ≡ true → Front t (codes "by" ++ w) k.By w
by_stands t w h = front_before w (by_front t) refl h

-- the words behind `by` are names
pub intro_name : IsName (codes "intro")
intro_name = record { front = word 105 (codes "ntro") false (omega arith) refl (letter 110 (omega arith) refl (letter 116 (omega arith) refl (letter 114 (omega arith) refl (letter 111 (omega arith) refl none)))); short = omega arith }

pub elim_name : IsName (codes "elim")
elim_name = record { front = word 101 (codes "lim") false (omega arith) refl (letter 108 (omega arith) refl (letter 105 (omega arith) refl (letter 109 (omega arith) refl none))); short = omega arith }

pub same_name : IsName (codes "same")
same_name = record { front = word 115 (codes "ame") false (omega arith) refl (letter 97 (omega arith) refl (letter 109 (omega arith) refl (letter 101 (omega arith) refl none))); short = omega arith }

pub use_name : IsName (codes "use")
use_name = record { front = word 117 (codes "se") false (omega arith) refl (letter 115 (omega arith) refl (letter 101 (omega arith) refl none)); short = omega arith }

-- a name, where what stands behind it does not go on with it
pub name_stands : (t : Bool) {x : List ℕ} (w : List ℕ) → IsName x → is_apart w ≡ true → Front t (x ++ w) k.Name w
name_stands t w n h = front_before w (front_any t n.front refl) refl h
