-- The trees that some text gives within the limits: their names are names, their lists aren't too short, and their canonical text
-- doesn't nest too deep.
use Rattle.std.specs.Prelude.{ℕ, ◌+◌, ◌≤◌, Bool, true, false, List, [], ◌∷◌}
use Rattle.fb_base.specs.declared.places.Span.{Span}
use Rattle.fb_lex.specs.Tokens.{IsName}
use Rattle.fb_parse.specs.Grammar.{Surface, Surfaces, Star, Box_, Name, Inst, Apply, Fun, All, Arrow, none, more}
use Rattle.fb_parse.specs.Items.{SurfaceArg, Hole, Given, SurfaceBody, Plain, Intro, Elim, Same, Fill, SurfaceKind, Flag, Prim, Line, SurfaceItem}
use Rattle.fb_write.specs.Canonical.{is_open_ended, is_compound}

-- the nesting of a part that stands in parentheses or not
abbrev pub inside : Bool → ℕ → ℕ
inside true n = n + 1
inside false n = n

-- A tree that can be written as a term of this nesting.
mutual
  pub data IsWritable : ℕ → Surface → Type 0 where
    star : {n : ℕ} {s : Span} → n ≤ 500 → IsWritable n (Star s)
    box : {n : ℕ} {s : Span} → n ≤ 500 → IsWritable n (Box_ s)
    named : {n : ℕ} {s : Span} {x : List ℕ} → n ≤ 500 → IsName x → IsWritable n (Name s x)
    instance : {n : ℕ} {s : Span} {x : List ℕ} {a : Surface} {us : Surfaces} → n ≤ 500 → IsName x →
        IsWritable (n + 1) a → AreWritable (n + 1) us → IsWritable n (Inst s x (more a us))
    apply : {n : ℕ} {s : Span} {f a : Surface} {us : Surfaces} → n ≤ 500 →
        IsWritable (inside (is_compound f) n) f → AreArguments n (more a us) → IsWritable n (Apply s f (more a us))
    fun : {n : ℕ} {s : Span} {x : List ℕ} {a m : Surface} → n ≤ 500 → IsName x →
        IsWritable (n + 1) a → IsWritable (n + 1) m → IsWritable n (Fun s x a m)
    all : {n : ℕ} {s : Span} {x : List ℕ} {a b : Surface} → n ≤ 500 → IsName x →
        IsWritable (n + 1) a → IsWritable (n + 1) b → IsWritable n (All s x a b)
    arrow : {n : ℕ} {s : Span} {a b : Surface} → n ≤ 500 →
        IsWritable (inside (is_open_ended a) n) a → IsWritable (n + 1) b → IsWritable n (Arrow s a b)

  -- as terms with commas between them
  pub data AreWritable : ℕ → Surfaces → Type 0 where
    nothing : {n : ℕ} → AreWritable n none
    term : {n : ℕ} {a : Surface} {us : Surfaces} → IsWritable n a → AreWritable n us → AreWritable n (more a us)

  -- as arguments of an application of this nesting
  pub data AreArguments : ℕ → Surfaces → Type 0 where
    no_argument : {n : ℕ} → AreArguments n none
    argument : {n : ℕ} {a : Surface} {us : Surfaces} → IsWritable (inside (is_compound a) n) a → AreArguments n us →
        AreArguments n (more a us)

pub data IsWritableArg : SurfaceArg → Type 0 where
  hole : {s : Span} → IsWritableArg (Hole s)
  given : {a : Surface} → IsWritable 1 a → IsWritableArg (Given a)

pub data AreWritableArgs : List SurfaceArg → Type 0 where
  no_arg : AreWritableArgs []
  arg : {a : SurfaceArg} {args : List SurfaceArg} → IsWritableArg a → AreWritableArgs args → AreWritableArgs (a ∷ args)

pub data IsWritableBody : SurfaceBody → Type 0 where
  plain : {a : Surface} → IsWritable 1 a → IsWritableBody (Plain a)
  intro : {s : Span} {w : List ℕ} → IsName w → IsWritableBody (Intro s w)
  elimination : {f a : Surface} {us : Surfaces} → IsWritable 1 f → IsWritable 1 a → AreWritable 1 us →
      IsWritableBody (Elim (more f (more a us)))
  same : {a : Surface} → IsWritable 1 a → IsWritableBody (Same a)
  fill : {s : Span} {c : List ℕ} {args : List SurfaceArg} → IsName c → AreWritableArgs args → IsWritableBody (Fill s c args)

pub data IsWritableKind : SurfaceKind → Type 0 where
  flag : {a : Surface} → IsWritable 1 a → IsWritableKind (Flag a)
  primitive : {n : Surface} → IsWritable 1 n → IsWritableKind (Prim n)
  line : {body : SurfaceBody} {n : Surface} → IsWritableBody body → IsWritable 1 n → IsWritableKind (Line body n)

pub record IsWritableItem (i : SurfaceItem) : Type 0 where
  pub name : IsName i.name
  pub kind : IsWritableKind i.kind

pub data AreWritableItems : List SurfaceItem → Type 0 where
  no_item : AreWritableItems []
  item : {i : SurfaceItem} {is : List SurfaceItem} → IsWritableItem i → AreWritableItems is → AreWritableItems (i ∷ is)
