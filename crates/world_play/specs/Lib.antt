pub mod Drive
pub mod DriveCourse
